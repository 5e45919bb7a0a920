-- `judging_pages::construct::hang_under` meets its contract: each return rewrites with the steps that led there.
use borrow.Author.Tests.{eq-eqb, le-ltb, lt-ltb, ne_eqb}
use Rattle.rules.specs.Calls.{size_at}
use Rattle.words.specs.Try.{◌>>=◌, ◌>>◌, need}
use Rattle.judging_pages.specs.Hanging.{hang_under}
use Rattle.judging_pages.proofs.construct.hang_under.Goals as goal

pub returns-then-positions_in-i : goal.returns-then-positions_in-i
unfolding hang_under ◌>>=◌ ◌>>◌ need
returns-then-positions_in-i c = rw (← c.positions_in.ensures, le-ltb _ _ c.if-positions_in-i.true)

pub returns-then-c-g : goal.returns-then-c-g
unfolding hang_under ◌>>=◌ ◌>>◌ need
returns-then-c-g c = rw (← c.positions_in.ensures, lt-ltb _ _ c.if-positions_in-i.false, ← c.shape_at-c.ensures, ← c.shape_at-g.ensures, ne_eqb _ _ c.if-c-g.true, size_at)

pub returns-then-not-in_span : goal.returns-then-not-in_span
unfolding hang_under ◌>>=◌ ◌>>◌ need
returns-then-not-in_span c = rw (← c.positions_in.ensures, lt-ltb _ _ c.if-positions_in-i.false, ← c.shape_at-c.ensures, ← c.shape_at-g.ensures, eq-eqb _ _ c.if-c-g.false, ← c.in_span.ensures, c.if-not-in_span.true, size_at)

pub returns-then-not-is_empty : goal.returns-then-not-is_empty
unfolding hang_under ◌>>=◌ ◌>>◌ need
returns-then-not-is_empty c = rw (← c.positions_in.ensures, lt-ltb _ _ c.if-positions_in-i.false, ← c.shape_at-c.ensures, ← c.shape_at-g.ensures, eq-eqb _ _ c.if-c-g.false, ← c.in_span.ensures, c.if-not-in_span.false, ← c.position_at.ensures, ← c.is_empty.ensures, c.if-not-is_empty.true, size_at)

pub returns-then-c : goal.returns-then-c
unfolding hang_under ◌>>=◌ ◌>>◌ need
returns-then-c c = rw (← c.positions_in.ensures, lt-ltb _ _ c.if-positions_in-i.false, ← c.shape_at-c.ensures, ← c.shape_at-g.ensures, eq-eqb _ _ c.if-c-g.false, ← c.in_span.ensures, c.if-not-in_span.false, ← c.position_at.ensures, ← c.is_empty.ensures, c.if-not-is_empty.false, c.if-c.true, size_at)

pub returns : goal.returns
unfolding hang_under ◌>>=◌ ◌>>◌ need
returns c = rw (← c.positions_in.ensures, lt-ltb _ _ c.if-positions_in-i.false, ← c.shape_at-c.ensures, ← c.shape_at-g.ensures, eq-eqb _ _ c.if-c-g.false, ← c.in_span.ensures, c.if-not-in_span.false, ← c.position_at.ensures, ← c.is_empty.ensures, c.if-not-is_empty.false, c.if-c.false, size_at)
