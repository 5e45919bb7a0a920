-- "prove that two results satisfying it are equal": each public function's contract determines its answer, and all that was lent.
use mathlib.Core.Path.{refl}
use Rattle.words.specs.Determined.{Determined}
use Rattle.audit_roots.proofs as audit_roots
use Rattle.audit_roots.specs.contracts as contracts

pub roots_ok : Determined contracts.roots_ok.ended audit_roots.roots_ok.Reads.Learnt
roots_ok κs a x y v w p q = (cc, refl)
