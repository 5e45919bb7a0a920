-- `judging_places::places::frozen_at` meets its contract: each return is the rule's, step by step.
use Rattle.std.proofs.Common.{rules}
use Rattle.words.specs.Try.{◌>>=◌, ◌>>◌, need}
use Rattle.words.specs.Tests.{◌&◌}
use Rattle.rules.specs.Places.{frozen_at}
use Rattle.judging_places.proofs.places.frozen_at.Goals as goal

pub returns-in_err-c : goal.returns-in_err-c
unfolding frozen_at ◌>>=◌ ◌>>◌ need ◌&◌
returns-in_err-c c = search rules

pub returns-then-is_thawed : goal.returns-then-is_thawed
unfolding frozen_at ◌>>=◌ ◌>>◌ need ◌&◌
returns-then-is_thawed c = search rules

pub returns : goal.returns
unfolding frozen_at ◌>>=◌ ◌>>◌ need ◌&◌
returns c = search rules
