-- `judging_tables::grants::is_inside` meets its contract: each return rewrites with the steps that led there.
use mathlib.Core.Path.{sym, ◌∙◌}
use borrow.Author.Tests.{eq-eqb, le-leb, lt-leb, ne_eqb, not-false, not-true}
use Rattle.words.specs.Rights.{inside}
use Rattle.words.specs.Tests.{◌&◌}
use Rattle.judging_tables.proofs.grants.is_inside.Goals as goal

pub returns-then-kind_number : goal.returns-then-kind_number
unfolding inside ◌&◌
returns-then-kind_number c = rw (← c.kind_number.ensures, ← c.kind_number-2.ensures, ne_eqb _ _ c.if-kind_number.true)

pub returns-then-ne : goal.returns-then-ne
unfolding inside ◌&◌
returns-then-ne c = rw (← c.kind_number.ensures, ← c.kind_number-2.ensures, eq-eqb _ _ c.if-kind_number.false, ← c.object_of.ensures, ← c.object_of-2.ensures, not-true _ (sym c.ne.ensures ∙ c.if-ne.true))

pub returns-then-low_of : goal.returns-then-low_of
unfolding inside ◌&◌
returns-then-low_of c = rw (← c.kind_number.ensures, ← c.kind_number-2.ensures, eq-eqb _ _ c.if-kind_number.false, ← c.object_of.ensures, ← c.object_of-2.ensures, not-false _ (sym c.ne.ensures ∙ c.if-ne.false), ← c.low_of.ensures, ← c.low_of-2.ensures, lt-leb _ _ c.if-low_of.true)

pub returns : goal.returns
unfolding inside ◌&◌
returns c = rw (← c.kind_number.ensures, ← c.kind_number-2.ensures, eq-eqb _ _ c.if-kind_number.false, ← c.object_of.ensures, ← c.object_of-2.ensures, not-false _ (sym c.ne.ensures ∙ c.if-ne.false), ← c.low_of.ensures, ← c.low_of-2.ensures, le-leb _ _ c.if-low_of.false, ← c.high_of.ensures, ← c.high_of-2.ensures)
