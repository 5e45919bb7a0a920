-- `judging_tables::freeze::judge_freeze` meets its contract: each return is the rule's, step by step.
use Rattle.std.proofs.Common.{rules}
use Rattle.words.specs.Try.{◌>>=◌, ◌>>◌, need}
use Rattle.words.specs.Tests.{◌&◌}
use Rattle.rules.specs.Calls.{freeze}
use Rattle.judging_tables.proofs.freeze.judge_freeze.Goals as goal

pub returns-in_err-c : goal.returns-in_err-c
unfolding freeze ◌>>=◌ ◌>>◌ need ◌&◌
returns-in_err-c c = search rules

pub returns-in_err-thawed_at : goal.returns-in_err-thawed_at
unfolding freeze ◌>>=◌ ◌>>◌ need ◌&◌
returns-in_err-thawed_at c = search rules

pub returns : goal.returns
unfolding freeze ◌>>=◌ ◌>>◌ need ◌&◌
returns c = search rules
