-- `judging_deletions::deletions::after_type` meets its contract: each return is the rule's, step by step.
use Rattle.std.proofs.Common.{rules}
use Rattle.words.specs.Try.{◌>>=◌, ◌>>◌, need}
use Rattle.words.specs.Tests.{◌&◌}
use Rattle.judging_deletions.specs.Deletions.{after_type}
use Rattle.judging_deletions.proofs.deletions.after_type.Goals as goal

pub returns-in_err-quiet : goal.returns-in_err-quiet
unfolding after_type ◌>>=◌ ◌>>◌ need ◌&◌
returns-in_err-quiet c = search rules

pub returns-then-is_some : goal.returns-then-is_some
unfolding after_type ◌>>=◌ ◌>>◌ need ◌&◌
returns-then-is_some c = search rules

pub returns-then-has_children : goal.returns-then-has_children
unfolding after_type ◌>>=◌ ◌>>◌ need ◌&◌
returns-then-has_children c = search rules

pub returns-then-has_users : goal.returns-then-has_users
unfolding after_type ◌>>=◌ ◌>>◌ need ◌&◌
returns-then-has_users c = search rules

pub returns : goal.returns
unfolding after_type ◌>>=◌ ◌>>◌ need ◌&◌
returns c = search rules
