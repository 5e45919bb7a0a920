-- `judging_deletions::removals::to_remove` meets its contract: each return is the rule's, step by step.
use Rattle.std.proofs.Common.{rules}
use Rattle.words.specs.Try.{◌>>=◌, ◌>>◌, need}
use Rattle.words.specs.Tests.{◌&◌}
use Rattle.rules.specs.Places.{to_remove}
use Rattle.judging_deletions.proofs.removals.to_remove.Goals as goal

pub returns-in_err-c : goal.returns-in_err-c
unfolding to_remove ◌>>=◌ ◌>>◌ need ◌&◌
returns-in_err-c c = search rules

pub returns-in_err-quiet : goal.returns-in_err-quiet
unfolding to_remove ◌>>=◌ ◌>>◌ need ◌&◌
returns-in_err-quiet c = search rules

pub returns-then-is_none : goal.returns-then-is_none
unfolding to_remove ◌>>=◌ ◌>>◌ need ◌&◌
returns-then-is_none c = search rules

pub returns-then-has_children : goal.returns-then-has_children
unfolding to_remove ◌>>=◌ ◌>>◌ need ◌&◌
returns-then-has_children c = search rules

pub returns : goal.returns
unfolding to_remove ◌>>=◌ ◌>>◌ need ◌&◌
returns c = search rules
