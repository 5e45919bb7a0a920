-- "prove that two results satisfying it are equal": each public function's contract determines its answer, and all that was lent.
use mathlib.Core.Path.{refl}
use Rattle.words.specs.Determined.{Determined}
use Rattle.audit.proofs as audit
use Rattle.audit.specs.contracts as contracts

pub well_formed : Determined contracts.well_formed.ended audit.well_formed.Reads.Learnt
well_formed κs a x y v w p q = (cc, refl)
