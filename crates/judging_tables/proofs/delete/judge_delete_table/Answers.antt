-- `judging_tables::delete::judge_delete_table` meets its contract: each return is the rule's, step by step.
use Rattle.std.proofs.Common.{rules}
use Rattle.words.specs.Try.{◌>>=◌, ◌>>◌, need}
use Rattle.words.specs.Tests.{◌&◌}
use Rattle.rules.specs.Calls.{delete_table}
use Rattle.judging_tables.proofs.delete.judge_delete_table.Goals as goal

pub returns-in_err-c : goal.returns-in_err-c
unfolding delete_table ◌>>=◌ ◌>>◌ need ◌&◌
returns-in_err-c c = search rules

pub returns-in_err-o : goal.returns-in_err-o
unfolding delete_table ◌>>=◌ ◌>>◌ need ◌&◌
returns-in_err-o c = search rules

pub returns-then-not-is_empty_table : goal.returns-then-not-is_empty_table
unfolding delete_table ◌>>=◌ ◌>>◌ need ◌&◌
returns-then-not-is_empty_table c = search rules

pub returns : goal.returns
unfolding delete_table ◌>>=◌ ◌>>◌ need ◌&◌
returns c = search rules
