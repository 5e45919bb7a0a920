-- `judging_places::places::to_fill` meets its contract: each return is the rule's, step by step.
use Rattle.std.proofs.Common.{rules}
use Rattle.words.specs.Try.{◌>>=◌, ◌>>◌, need}
use Rattle.words.specs.Tests.{◌&◌}
use Rattle.rules.specs.Places.{to_fill}
use Rattle.judging_places.proofs.places.to_fill.Goals as goal

pub returns-then-entries_in-e : goal.returns-then-entries_in-e
unfolding to_fill ◌>>=◌ ◌>>◌ need ◌&◌
returns-then-entries_in-e c = search rules

pub returns-then-not-place_thawed : goal.returns-then-not-place_thawed
unfolding to_fill ◌>>=◌ ◌>>◌ need ◌&◌
returns-then-not-place_thawed c = search rules

pub returns-then-is_some : goal.returns-then-is_some
unfolding to_fill ◌>>=◌ ◌>>◌ need ◌&◌
returns-then-is_some c = search rules

pub returns : goal.returns
unfolding to_fill ◌>>=◌ ◌>>◌ need ◌&◌
returns c = search rules
