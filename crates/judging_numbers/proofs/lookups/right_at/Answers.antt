-- `judging_numbers::lookups::right_at` meets its contract: each return is the rule's, step by step.
use Rattle.std.proofs.Common.{rules}
use Rattle.words.specs.Try.{◌>>=◌, ◌>>◌, need}
use Rattle.rules.specs.Numbers.{right_at}
use Rattle.judging_numbers.proofs.lookups.right_at.Goals as goal

pub returns-then-entries_in-e : goal.returns-then-entries_in-e
unfolding right_at ◌>>=◌ ◌>>◌ need
returns-then-entries_in-e c = search rules

pub returns-then-not-place_thawed : goal.returns-then-not-place_thawed
unfolding right_at ◌>>=◌ ◌>>◌ need
returns-then-not-place_thawed c = search rules

pub returns-in_default : goal.returns-in_default
unfolding right_at ◌>>=◌ ◌>>◌ need
returns-in_default c = search rules

pub returns : goal.returns
unfolding right_at ◌>>=◌ ◌>>◌ need
returns c = search rules
