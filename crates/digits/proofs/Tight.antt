-- "prove that two results satisfying it are equal": each public function's contract determines its answer.
use mathlib.Core.Path.{refl}
use Rattle.words.specs.Determined.{Determined}
use Rattle.digits.proofs as digits
use Rattle.digits.specs.contracts as contracts

pub digit : Determined contracts.digit.ended digits.digit.Reads.Learnt
digit κs a x y v w p q = (cc, refl)

pub digit_for : Determined contracts.digit_for.ended digits.digit_for.Reads.Learnt
digit_for κs a x y v w p q = (cc, refl)
