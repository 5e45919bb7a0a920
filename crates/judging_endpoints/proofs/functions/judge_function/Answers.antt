-- `judging_endpoints::functions::judge_function` meets its contract: each return is the rule's, step by step.
use Rattle.std.proofs.Common.{rules}
use Rattle.words.specs.Try.{◌>>=◌, ◌>>◌, need}
use Rattle.words.specs.Tests.{◌&◌}
use Rattle.rules.specs.Calls.{function}
use Rattle.judging_endpoints.proofs.functions.judge_function.Goals as goal

pub returns-in_err-c : goal.returns-in_err-c
unfolding function ◌>>=◌ ◌>>◌ need ◌&◌
returns-in_err-c c = search rules

pub returns-in_err-f : goal.returns-in_err-f
unfolding function ◌>>=◌ ◌>>◌ need ◌&◌
returns-in_err-f c = search rules

pub returns-then-n-f : goal.returns-then-n-f
unfolding function ◌>>=◌ ◌>>◌ need ◌&◌
returns-then-n-f c = search rules

pub returns-then-f-n : goal.returns-then-f-n
unfolding function ◌>>=◌ ◌>>◌ need ◌&◌
returns-then-f-n c = search rules

pub returns-then-n-ne0 : goal.returns-then-n-ne0
unfolding function ◌>>=◌ ◌>>◌ need ◌&◌
returns-then-n-ne0 c = search rules

pub returns : goal.returns
unfolding function ◌>>=◌ ◌>>◌ need ◌&◌
returns c = search rules
