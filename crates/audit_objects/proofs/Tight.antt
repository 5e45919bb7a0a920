-- "prove that two results satisfying it are equal": each public function's contract determines its answer, and all that was lent.
use mathlib.Core.Path.{refl}
use Rattle.words.specs.Determined.{Determined}
use Rattle.audit_objects.proofs as audit_objects
use Rattle.audit_objects.specs.contracts as contracts

pub objects_ok : Determined contracts.objects.objects_ok.ended audit_objects.objects.objects_ok.Reads.Learnt
objects_ok κs a x y v w p q = (cc, refl)
