-- `judging_places::places::thawed_at` meets its contract: each return is the rule's, step by step.
use Rattle.std.proofs.Common.{rules}
use Rattle.words.specs.Try.{◌>>=◌, ◌>>◌, need}
use Rattle.words.specs.Tests.{◌&◌}
use Rattle.rules.specs.Places.{thawed_at}
use Rattle.judging_places.proofs.places.thawed_at.Goals as goal

pub returns-in_err-c : goal.returns-in_err-c
unfolding thawed_at ◌>>=◌ ◌>>◌ need ◌&◌
returns-in_err-c c = search rules

pub returns-then-not-is_thawed : goal.returns-then-not-is_thawed
unfolding thawed_at ◌>>=◌ ◌>>◌ need ◌&◌
returns-then-not-is_thawed c = search rules

pub returns : goal.returns
unfolding thawed_at ◌>>=◌ ◌>>◌ need ◌&◌
returns c = search rules
