-- "prove that two results satisfying it are equal": each public function's contract determines its answer, and all that was lent.
use mathlib.Core.Path.{refl}
use Rattle.words.specs.Determined.{Determined}
use Rattle.judging_processes.proofs as judging_processes
use Rattle.judging_processes.specs.contracts as contracts

pub judge_change_table : Determined contracts.changes.judge_change_table.ended judging_processes.changes.judge_change_table.Reads.Learnt
judge_change_table κs a x y v w p q = (cc, refl)

pub judge_change_directory : Determined contracts.changes.judge_change_directory.ended judging_processes.changes.judge_change_directory.Reads.Learnt
judge_change_directory κs a x y v w p q = (cc, refl)

pub judge_create_endpoint : Determined contracts.endpoints.judge_create_endpoint.ended judging_processes.endpoints.judge_create_endpoint.Reads.Learnt
judge_create_endpoint κs a x y v w p q = (cc, refl)

pub judge_delete_endpoint : Determined contracts.endpoints.judge_delete_endpoint.ended judging_processes.endpoints.judge_delete_endpoint.Reads.Learnt
judge_delete_endpoint κs a x y v w p q = (cc, refl)

pub judge_create_process : Determined contracts.processes.judge_create_process.ended judging_processes.processes.judge_create_process.Reads.Learnt
judge_create_process κs a x y v w p q = (cc, refl)

pub judge_delete_process : Determined contracts.processes.judge_delete_process.ended judging_processes.processes.judge_delete_process.Reads.Learnt
judge_delete_process κs a x y v w p q = (cc, refl)
