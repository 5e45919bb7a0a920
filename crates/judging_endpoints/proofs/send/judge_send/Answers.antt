-- `judging_endpoints::send::judge_send` meets its contract: each return is the rule's, step by step.
use Rattle.std.proofs.Common.{rules}
use Rattle.words.specs.Try.{◌>>=◌, ◌>>◌, need}
use Rattle.words.specs.Tests.{◌&◌}
use Rattle.rules.specs.Calls.{send}
use Rattle.judging_endpoints.proofs.send.judge_send.Goals as goal

pub returns-in_err-e : goal.returns-in_err-e
unfolding send ◌>>=◌ ◌>>◌ need ◌&◌
returns-in_err-e c = search rules

pub returns-then-waiting-lt-FULL_COUNT : goal.returns-then-waiting-lt-FULL_COUNT
unfolding send ◌>>=◌ ◌>>◌ need ◌&◌
returns-then-waiting-lt-FULL_COUNT c = search rules

pub returns : goal.returns
unfolding send ◌>>=◌ ◌>>◌ need ◌&◌
returns c = search rules
