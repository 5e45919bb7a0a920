-- `judging_numbers::lookups::look_up` meets its contract: each return is the rule's, step by step.
use Rattle.std.proofs.Common.{rules}
use Rattle.words.specs.Try.{◌>>=◌, ◌>>◌, need}
use Rattle.words.specs.Tests.{◌&◌}
use Rattle.rules.specs.Numbers.{lookup}
use Rattle.judging_numbers.proofs.lookups.look_up.Goals as goal

pub returns-then-v-lt-ONE_STEP_END : goal.returns-then-v-lt-ONE_STEP_END
unfolding lookup ◌>>=◌ ◌>>◌ need ◌&◌
returns-then-v-lt-ONE_STEP_END c = search rules

pub returns : goal.returns
unfolding lookup ◌>>=◌ ◌>>◌ need ◌&◌
returns c = search rules
