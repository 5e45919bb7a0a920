-- `judging_places::ages::quiet` meets its contract: each return is the rule's, step by step.
use Rattle.std.proofs.Common.{rules}
use Rattle.words.specs.Try.{need}
use Rattle.rules.specs.Places as Places
use Rattle.judging_places.proofs.ages.quiet.Goals as goal

pub returns-then-age-lt-QUIET_TICKS : goal.returns-then-age-lt-QUIET_TICKS
unfolding Places.quiet need
returns-then-age-lt-QUIET_TICKS c = search rules

pub returns : goal.returns
unfolding Places.quiet need
returns c = search rules
