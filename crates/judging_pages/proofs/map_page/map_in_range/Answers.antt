-- `judging_pages::map_page::map_in_range` meets its contract: each return rewrites with the steps that led there.
use mathlib.Core.Path.{sym, ap, ◌∙◌}
use Rattle.std.proofs.Common.{rules}
use borrow.Author.Tests.{eq-eqb, ne_eqb}
use Rattle.rules.specs.Calls.{size_at, as_page}
use Rattle.state.specs.Read.{read}
use Rattle.words.specs.Fields.{D0}
use Rattle.judging_pages.specs.Names.{PgtHw}
use Rattle.judging_pages.proofs.Frames.{frame_fits}
use Rattle.words.specs.Rights.{subset}
use Rattle.words.specs.Try.{◌>>=◌, ◌>>◌, need}
use Rattle.judging_pages.specs.Mapping.{map_in_range}
use Rattle.judging_pages.proofs.map_page.map_in_range.Goals as goal

pub returns-then-not-in_span : goal.returns-then-not-in_span
unfolding map_in_range ◌>>=◌ ◌>>◌ need subset
returns-then-not-in_span c = rw (← c.d0-to.ensures, ← c.in_span.ensures, c.if-not-in_span.true)

pub returns-then-not-in_span-2 : goal.returns-then-not-in_span-2
unfolding map_in_range ◌>>=◌ ◌>>◌ need subset
returns-then-not-in_span-2 c = rw (← c.d0-to.ensures, ← c.d0-from.ensures, ← c.in_span.ensures, c.if-not-in_span.false, ← c.in_span-2.ensures, c.if-not-in_span-2.true)

pub returns-in_err-f : goal.returns-in_err-f
unfolding map_in_range ◌>>=◌ ◌>>◌ need subset
returns-in_err-f c = search rules

pub returns-then-not-is_empty : goal.returns-then-not-is_empty
unfolding map_in_range ◌>>=◌ ◌>>◌ need subset
returns-then-not-is_empty c = rw (← c.d0-to.ensures, ← c.d0-from.ensures, ← c.in_span.ensures, c.if-not-in_span.false, ← c.in_span-2.ensures, c.if-not-in_span-2.false, ← c.position_at.ensures, ← c.as_page.ensures, c.in_ok-f.was, ← c.position_at-2.ensures, ← c.is_empty.ensures, c.if-not-is_empty.true)

pub returns-then-flags-f : goal.returns-then-flags-f
unfolding map_in_range ◌>>=◌ ◌>>◌ need subset
returns-then-flags-f c = rw (← c.d0-to.ensures, ← c.d0-from.ensures, ← c.d1-flags.ensures, ← c.in_span.ensures, c.if-not-in_span.false, ← c.in_span-2.ensures, c.if-not-in_span-2.false, ← c.position_at.ensures, ← c.as_page.ensures, c.in_ok-f.was, ← c.position_at-2.ensures, ← c.is_empty.ensures, c.if-not-is_empty.false, ne_eqb _ _ c.if-flags-f.true)

pub frame_in-frame-requires : goal.frame_in-frame-requires
frame_in-frame-requires c =
    let a = c.args in let p = c.requires in
    let page = sym (ap (as_page PgtHw) c.position_at.ensures) ∙ sym c.as_page.ensures ∙ c.in_ok-f.was in
    rw (c.d0-index.ensures, c.shape_at-g.ensures) (frame_fits (read a.s.now) p.0 a.d.object a.x.object c.d0-from.result (D0 a.w.p3) PgtHw _ page p.1 p.2)

pub returns : goal.returns
unfolding map_in_range ◌>>=◌ ◌>>◌ need subset
returns c = rw (← c.d0-to.ensures, ← c.d0-from.ensures, ← c.d0-index.ensures, ← c.d1-flags.ensures, ← c.in_span.ensures, c.if-not-in_span.false, ← c.in_span-2.ensures, c.if-not-in_span-2.false, ← c.position_at.ensures, ← c.as_page.ensures, c.in_ok-f.was, ← c.position_at-2.ensures, ← c.is_empty.ensures, c.if-not-is_empty.false, eq-eqb _ _ c.if-flags-f.false, ← c.shape_at-g.ensures, ← c.frame_in-frame.ensures, size_at)
