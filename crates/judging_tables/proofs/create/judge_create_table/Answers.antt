-- `judging_tables::create::judge_create_table` meets its contract: each return is the rule's, step by step.
use Rattle.std.proofs.Common.{rules}
use Rattle.words.specs.Try.{◌>>=◌, ◌>>◌, need}
use Rattle.words.specs.Tests.{◌&◌}
use Rattle.rules.specs.Calls.{create_table}
use Rattle.passed.proofs.Stand.{memory_found}
use Rattle.judging_tables.proofs.create.judge_create_table.Goals as goal

pub returns-in_err-c : goal.returns-in_err-c
unfolding create_table ◌>>=◌ ◌>>◌ need ◌&◌
returns-in_err-c c = search rules

pub returns-in_err-m : goal.returns-in_err-m
unfolding create_table ◌>>=◌ ◌>>◌ need ◌&◌
returns-in_err-m c = search rules

pub returns-in_err-p : goal.returns-in_err-p
unfolding create_table ◌>>=◌ ◌>>◌ need ◌&◌
returns-in_err-p c = search rules

pub returns-then-not-entries_ok : goal.returns-then-not-entries_ok
unfolding create_table ◌>>=◌ ◌>>◌ need ◌&◌
returns-then-not-entries_ok c = search rules

pub overflow_mul-entries : goal.overflow_mul-entries
unfolding create_table ◌>>=◌ ◌>>◌ need ◌&◌
overflow_mul-entries c = search rules

pub address_arg-requires-clause-kernel_memory : goal.address_arg-requires-clause-kernel_memory
address_arg-requires-clause-kernel_memory c = memory_found _ _ _ _ c.requires c.memory_arg.ensures c.in_ok-m.was

pub address_arg-requires-clause-few_slots : goal.address_arg-requires-clause-few_slots
unfolding create_table ◌>>=◌ ◌>>◌ need ◌&◌
address_arg-requires-clause-few_slots c = search rules

pub returns-in_err-first : goal.returns-in_err-first
unfolding create_table ◌>>=◌ ◌>>◌ need ◌&◌
returns-in_err-first c = search rules

pub returns : goal.returns
unfolding create_table ◌>>=◌ ◌>>◌ need ◌&◌
returns c = search rules
