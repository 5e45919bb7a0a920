-- "prove that two results satisfying it are equal": each public function's contract determines its answer, and all that was lent.
use mathlib.Core.Path.{refl}
use Rattle.words.specs.Determined.{Determined}
use Rattle.judging.proofs as judging
use Rattle.judging.specs.contracts as contracts

pub judge : Determined contracts.judge.ended judging.judge.Reads.Learnt
judge κs a x y v w p q = (cc, refl)
