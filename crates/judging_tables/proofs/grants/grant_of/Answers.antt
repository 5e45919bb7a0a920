-- `judging_tables::grants::grant_of` meets its contract: each return rewrites with the steps that led there.
use Rattle.rules.specs.Calls.{granted}
use Rattle.words.specs.Tests.{◌&◌}
use Rattle.words.specs.Try.{◌>>=◌, ◌>>◌, need}
use Rattle.judging_tables.proofs.grants.grant_of.Goals as goal

pub returns-then-not-some_flag : goal.returns-then-not-some_flag
unfolding granted ◌>>=◌ ◌>>◌ need ◌&◌
returns-then-not-some_flag c = rw (← c.asked_flags-flags.ensures, ← c.asked_kind-kind.ensures, ← c.some_flag.ensures, c.if-not-some_flag.true)

pub returns-then-not-is_subset : goal.returns-then-not-is_subset
unfolding granted ◌>>=◌ ◌>>◌ need ◌&◌
returns-then-not-is_subset c = rw (← c.asked_flags-flags.ensures, ← c.asked_kind-kind.ensures, ← c.some_flag.ensures, c.if-not-some_flag.false, ← c.is_subset.ensures, c.if-not-is_subset.true)

pub returns-then-not-some_range : goal.returns-then-not-some_range
unfolding granted ◌>>=◌ ◌>>◌ need ◌&◌
returns-then-not-some_range c = rw (← c.asked_flags-flags.ensures, ← c.asked_kind-kind.ensures, ← c.some_flag.ensures, c.if-not-some_flag.false, ← c.is_subset.ensures, c.if-not-is_subset.false, ← c.some_range.ensures, c.if-not-some_range.true)

pub returns-then-not-is_inside : goal.returns-then-not-is_inside
unfolding granted ◌>>=◌ ◌>>◌ need ◌&◌
returns-then-not-is_inside c = rw (← c.asked_flags-flags.ensures, ← c.asked_kind-kind.ensures, ← c.some_flag.ensures, c.if-not-some_flag.false, ← c.is_subset.ensures, c.if-not-is_subset.false, ← c.some_range.ensures, c.if-not-some_range.false, ← c.is_inside.ensures, c.if-not-is_inside.true)

pub returns : goal.returns
unfolding granted ◌>>=◌ ◌>>◌ need ◌&◌
returns c = rw (← c.asked_flags-flags.ensures, ← c.asked_kind-kind.ensures, ← c.some_flag.ensures, c.if-not-some_flag.false, ← c.is_subset.ensures, c.if-not-is_subset.false, ← c.some_range.ensures, c.if-not-some_range.false, ← c.is_inside.ensures, c.if-not-is_inside.false)
