-- `judging_pages::map_page::map_addressed` meets its contract: each return rewrites with the steps that led there.
use mathlib.Core.Path.{sym, ◌∙◌}
use borrow.Author.Tests.{ltb-true, le-leb, le-ltb, lt-leb, lt-ltb}
use Rattle.rules.specs.Calls.{size_at}
use Rattle.words.specs.Tests.{◌&◌}
use Rattle.words.specs.Try.{◌>>=◌, ◌>>◌, need}
use Rattle.judging_pages.specs.Mapping.{map_addressed}
use Rattle.judging_pages.proofs.map_page.map_addressed.Goals as goal

pub returns-then-h-g : goal.returns-then-h-g
unfolding map_addressed ◌>>=◌ ◌>>◌ need ◌&◌
returns-then-h-g c = rw (← c.shape_at-g.ensures, ← c.shape_at-h.ensures, lt-leb _ _ c.if-h-g.true, size_at)

pub returns-then-positions_in-to : goal.returns-then-positions_in-to
unfolding map_addressed ◌>>=◌ ◌>>◌ need ◌&◌
returns-then-positions_in-to c = rw (← c.d0-to.ensures, ← c.shape_at-g.ensures, ← c.shape_at-h.ensures, le-leb _ _ c.if-h-g.false, ← c.positions_in.ensures, le-ltb _ _ c.if-positions_in-to.true, size_at)

pub returns-then-positions_in-from : goal.returns-then-positions_in-from
unfolding map_addressed ◌>>=◌ ◌>>◌ need ◌&◌
returns-then-positions_in-from c = rw (← c.d0-to.ensures, ← c.d0-from.ensures, ← c.shape_at-g.ensures, ← c.shape_at-h.ensures, le-leb _ _ c.if-h-g.false, ← c.positions_in.ensures, lt-ltb _ _ c.if-positions_in-to.false, ← c.positions_in-2.ensures, le-ltb _ _ c.if-positions_in-from.true, size_at)

pub returns-then-not-is_index : goal.returns-then-not-is_index
unfolding map_addressed ◌>>=◌ ◌>>◌ need ◌&◌
returns-then-not-is_index c = rw (← c.d0-to.ensures, ← c.d0-from.ensures, ← c.d0-index.ensures, ← c.shape_at-g.ensures, ← c.shape_at-h.ensures, le-leb _ _ c.if-h-g.false, ← c.positions_in.ensures, lt-ltb _ _ c.if-positions_in-to.false, ← c.positions_in-2.ensures, lt-ltb _ _ c.if-positions_in-from.false, ← c.is_index.ensures, c.if-not-is_index.true, size_at)

pub map_in_range-requires : goal.map_in_range-requires
map_in_range-requires c =
    rw (← c.d0-index.ensures, ← c.shape_at-g.ensures, ← c.shape_at-h.ensures, size_at)
    (c.requires, c.if-h-g.false, ltb-true _ _ (sym c.is_index.ensures ∙ c.if-not-is_index.false))

pub returns : goal.returns
unfolding map_addressed ◌>>=◌ ◌>>◌ need ◌&◌
returns c = rw (← c.d0-to.ensures, ← c.d0-from.ensures, ← c.d0-index.ensures, ← c.shape_at-g.ensures, ← c.shape_at-h.ensures, le-leb _ _ c.if-h-g.false, ← c.positions_in.ensures, lt-ltb _ _ c.if-positions_in-to.false, ← c.positions_in-2.ensures, lt-ltb _ _ c.if-positions_in-from.false, ← c.is_index.ensures, c.if-not-is_index.false, ← c.map_in_range.ensures, size_at)
