-- `judging_tables::delegate::judge_delegate` meets its contract: each return is the rule's, step by step.
use Rattle.std.proofs.Common.{rules}
use Rattle.words.specs.Try.{◌>>=◌, ◌>>◌, need}
use Rattle.words.specs.Tests.{◌&◌}
use Rattle.rules.specs.Calls.{delegate}
use Rattle.judging_tables.proofs.delegate.judge_delegate.Goals as goal

pub returns-in_err-d : goal.returns-in_err-d
unfolding delegate ◌>>=◌ ◌>>◌ need ◌&◌
returns-in_err-d c = search rules

pub returns-in_err-o : goal.returns-in_err-o
unfolding delegate ◌>>=◌ ◌>>◌ need ◌&◌
returns-in_err-o c = search rules

pub returns-in_err-p : goal.returns-in_err-p
unfolding delegate ◌>>=◌ ◌>>◌ need ◌&◌
returns-in_err-p c = search rules

pub returns-in_err-c : goal.returns-in_err-c
unfolding delegate ◌>>=◌ ◌>>◌ need ◌&◌
returns-in_err-c c = search rules

pub returns-in_err-right : goal.returns-in_err-right
unfolding delegate ◌>>=◌ ◌>>◌ need ◌&◌
returns-in_err-right c = search rules

pub returns : goal.returns
unfolding delegate ◌>>=◌ ◌>>◌ need ◌&◌
returns c = search rules
