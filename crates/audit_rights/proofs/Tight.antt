-- "prove that two results satisfying it are equal": each public function's contract determines its answer, and all that was lent.
use mathlib.Core.Path.{refl}
use Rattle.words.specs.Determined.{Determined}
use Rattle.audit_rights.proofs as audit_rights
use Rattle.audit_rights.specs.contracts as contracts

pub rights_ok : Determined contracts.rights.rights_ok.ended audit_rights.rights.rights_ok.Reads.Learnt
rights_ok κs a x y v w p q = (cc, refl)
