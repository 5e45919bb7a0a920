-- "prove that two results satisfying it are equal": each public function's contract determines its answer, and all that was lent.
use mathlib.Core.Path.{refl}
use Rattle.words.specs.Determined.{Determined}
use Rattle.judging_numbers.proofs as judging_numbers
use Rattle.judging_numbers.specs.contracts as contracts

pub table_arg : Determined contracts.arguments.table_arg.ended judging_numbers.arguments.table_arg.Reads.Learnt
table_arg κs a x y v w p q = (cc, refl)

pub directory_arg : Determined contracts.arguments.directory_arg.ended judging_numbers.arguments.directory_arg.Reads.Learnt
directory_arg κs a x y v w p q = (cc, refl)

pub memory_arg : Determined contracts.arguments.memory_arg.ended judging_numbers.arguments.memory_arg.Reads.Learnt
memory_arg κs a x y v w p q = (cc, refl)

pub process_arg : Determined contracts.arguments.process_arg.ended judging_numbers.arguments.process_arg.Reads.Learnt
process_arg κs a x y v w p q = (cc, refl)

pub endpoint_arg : Determined contracts.arguments.endpoint_arg.ended judging_numbers.arguments.endpoint_arg.Reads.Learnt
endpoint_arg κs a x y v w p q = (cc, refl)

pub top_arg : Determined contracts.arguments.top_arg.ended judging_numbers.arguments.top_arg.Reads.Learnt
top_arg κs a x y v w p q = (cc, refl)

pub caller_table : Determined contracts.callers.caller_table.ended judging_numbers.callers.caller_table.Reads.Learnt
caller_table κs a x y v w p q = (cc, refl)

pub as_table : Determined contracts.kinds.as_table.ended judging_numbers.kinds.as_table.Reads.Learnt
as_table κs a x y v w p q = (cc, refl)

pub as_directory_object : Determined contracts.kinds.as_directory_object.ended judging_numbers.kinds.as_directory_object.Reads.Learnt
as_directory_object κs a x y v w p q = (cc, refl)

pub as_process : Determined contracts.kinds.as_process.ended judging_numbers.kinds.as_process.Reads.Learnt
as_process κs a x y v w p q = (cc, refl)

pub as_endpoint : Determined contracts.kinds.as_endpoint.ended judging_numbers.kinds.as_endpoint.Reads.Learnt
as_endpoint κs a x y v w p q = (cc, refl)

pub as_function : Determined contracts.kinds.as_function.ended judging_numbers.kinds.as_function.Reads.Learnt
as_function κs a x y v w p q = (cc, refl)

pub has_flag : Determined contracts.lookups.has_flag.ended judging_numbers.lookups.has_flag.Reads.Learnt
has_flag κs a x y v w p q = (cc, refl)

pub look_up : Determined contracts.lookups.look_up.ended judging_numbers.lookups.look_up.Reads.Learnt
look_up κs a x y v w p q = (cc, refl)
