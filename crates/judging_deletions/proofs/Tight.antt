-- "prove that two results satisfying it are equal": each public function's contract determines its answer, and all that was lent.
use mathlib.Core.Path.{refl}
use Rattle.words.specs.Determined.{Determined}
use Rattle.judging_deletions.proofs as judging_deletions
use Rattle.judging_deletions.specs.contracts as contracts

pub slot_numbered : Determined contracts.children.slot_numbered.ended judging_deletions.children.slot_numbered.Reads.Learnt
slot_numbered κs a x y v w p q = (cc, refl)

pub table_to_delete : Determined contracts.deletions.table_to_delete.ended judging_deletions.deletions.table_to_delete.Reads.Learnt
table_to_delete κs a x y v w p q = (cc, refl)

pub directory_to_delete : Determined contracts.deletions.directory_to_delete.ended judging_deletions.deletions.directory_to_delete.Reads.Learnt
directory_to_delete κs a x y v w p q = (cc, refl)

pub process_to_delete : Determined contracts.deletions.process_to_delete.ended judging_deletions.deletions.process_to_delete.Reads.Learnt
process_to_delete κs a x y v w p q = (cc, refl)

pub endpoint_to_delete : Determined contracts.deletions.endpoint_to_delete.ended judging_deletions.deletions.endpoint_to_delete.Reads.Learnt
endpoint_to_delete κs a x y v w p q = (cc, refl)

pub to_remove : Determined contracts.removals.to_remove.ended judging_deletions.removals.to_remove.Reads.Learnt
to_remove κs a x y v w p q = (cc, refl)
