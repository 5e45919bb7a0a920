-- `judging_numbers::lookups::two_step` meets its contract: each return is the rule's, step by step.
use Rattle.std.proofs.Common.{rules}
use Rattle.words.specs.Try.{◌>>=◌, ◌>>◌, need}
use Rattle.rules.specs.Numbers.{two_step}
use Rattle.words.specs.Tests.{◌&◌}
use Rattle.judging_numbers.proofs.lookups.two_step.Goals as goal

pub returns-then-n-ge-TWO_STEP_END : goal.returns-then-n-ge-TWO_STEP_END
unfolding two_step ◌&◌ ◌>>=◌ ◌>>◌ need
returns-then-n-ge-TWO_STEP_END c = search rules

pub returns-in_default : goal.returns-in_default
unfolding two_step ◌&◌ ◌>>=◌ ◌>>◌ need
returns-in_default c = search rules

pub returns-in_err-table : goal.returns-in_err-table
unfolding two_step ◌&◌ ◌>>=◌ ◌>>◌ need
returns-in_err-table c = search rules

pub returns : goal.returns
unfolding two_step ◌&◌ ◌>>=◌ ◌>>◌ need
returns c = search rules
