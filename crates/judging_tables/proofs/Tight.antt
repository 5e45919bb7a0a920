-- "prove that two results satisfying it are equal": each public function's contract determines its answer, and all that was lent.
use mathlib.Core.Path.{refl}
use Rattle.words.specs.Determined.{Determined}
use Rattle.judging_tables.proofs as judging_tables
use Rattle.judging_tables.specs.contracts as contracts

pub judge_create_table : Determined contracts.create.judge_create_table.ended judging_tables.create.judge_create_table.Reads.Learnt
judge_create_table κs a x y v w p q = (cc, refl)

pub judge_delegate : Determined contracts.delegate.judge_delegate.ended judging_tables.delegate.judge_delegate.Reads.Learnt
judge_delegate κs a x y v w p q = (cc, refl)

pub judge_delete_table : Determined contracts.delete.judge_delete_table.ended judging_tables.delete.judge_delete_table.Reads.Learnt
judge_delete_table κs a x y v w p q = (cc, refl)

pub judge_freeze : Determined contracts.freeze.judge_freeze.ended judging_tables.freeze.judge_freeze.Reads.Learnt
judge_freeze κs a x y v w p q = (cc, refl)

pub judge_remove : Determined contracts.remove.judge_remove.ended judging_tables.remove.judge_remove.Reads.Learnt
judge_remove κs a x y v w p q = (cc, refl)
