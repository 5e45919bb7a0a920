-- `judging_places::places::used_at` meets its contract: each return is the rule's, step by step.
use Rattle.std.proofs.Common.{rules}
use Rattle.words.specs.Try.{◌>>=◌, ◌>>◌, need}
use Rattle.words.specs.Tests.{◌&◌}
use Rattle.rules.specs.Places.{used_at}
use Rattle.judging_places.proofs.places.used_at.Goals as goal

pub returns-then-entries_in-e : goal.returns-then-entries_in-e
unfolding used_at ◌>>=◌ ◌>>◌ need ◌&◌
returns-then-entries_in-e c = search rules

pub returns : goal.returns
unfolding used_at ◌>>=◌ ◌>>◌ need ◌&◌
returns c = search rules
