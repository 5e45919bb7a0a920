-- `judging_tables::remove::judge_remove` meets its contract: each return is the rule's, step by step.
use Rattle.std.proofs.Common.{rules}
use Rattle.words.specs.Try.{◌>>=◌, ◌>>◌, need}
use Rattle.words.specs.Tests.{◌&◌}
use Rattle.rules.specs.Calls.{remove}
use Rattle.judging_tables.proofs.remove.judge_remove.Goals as goal

pub returns-in_err-c : goal.returns-in_err-c
unfolding remove ◌>>=◌ ◌>>◌ need ◌&◌
returns-in_err-c c = search rules

pub returns-in_err-p : goal.returns-in_err-p
unfolding remove ◌>>=◌ ◌>>◌ need ◌&◌
returns-in_err-p c = search rules

pub returns : goal.returns
unfolding remove ◌>>=◌ ◌>>◌ need ◌&◌
returns c = search rules
