-- `judging_processes::changes::judge_change_table` meets its contract: each return is the rule's, step by step.
use Rattle.std.proofs.Common.{rules}
use Rattle.words.specs.Try.{◌>>=◌, ◌>>◌, need}
use Rattle.words.specs.Tests.{◌&◌}
use Rattle.rules.specs.Calls.{change_table}
use Rattle.judging_processes.proofs.changes.judge_change_table.Goals as goal

pub returns-in_err-p : goal.returns-in_err-p
unfolding change_table ◌>>=◌ ◌>>◌ need ◌&◌
returns-in_err-p c = search rules

pub returns-in_err-o : goal.returns-in_err-o
unfolding change_table ◌>>=◌ ◌>>◌ need ◌&◌
returns-in_err-o c = search rules

pub returns : goal.returns
unfolding change_table ◌>>=◌ ◌>>◌ need ◌&◌
returns c = search rules
