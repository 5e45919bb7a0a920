-- The end of the rule `map_page`, after its arguments, and after the tests of addresses: d is the target, s the source.
use Rattle.std.specs.Prelude.{◌*◌, ◌+◌, ◌-◌, ◌^◌, leb, ltb}
use Rattle.rules.specs.Calls.{as_page, in_span, is_empty, size_at}
use Rattle.state.specs.State.{State, position_at, positions_in}
use Rattle.words.specs.Fields.{D0, D1}
use Rattle.words.specs.Rights.{subset}
use Rattle.words.specs.Tests.{◌&◌}
use Rattle.words.specs.Try.{◌>>◌, ◌>>=◌, Try, need, Ok}
use Rattle.judging_pages.specs.Names.{Action, CapFlag, Page, PgtAddr, PgtHw, PgtMap, PgtPerm, SetPosition, Span, Words}

unfoldable pub map_in_range : State → Span → Span → Words → Try Action
map_in_range st d s w = do
  need (in_span d (D0 w.p1)) CapFlag
  need (in_span s (D0 w.p2)) CapFlag
  f ← as_page PgtHw (position_at st s.object (D0 w.p2))
  need (is_empty (position_at st d.object (D0 w.p1))) PgtMap
  need (subset (D1 w.p3) f.flags) PgtPerm
  Ok (SetPosition d.object (D0 w.p1) (Page (f.frame + D0 w.p3 * 2 ^ size_at st d) (D1 w.p3)))

unfoldable pub map_addressed : State → Span → Span → Words → Try Action
map_addressed st d s w = do
  need (leb (size_at st d) (size_at st s)) PgtAddr
  need (ltb (D0 w.p1) (positions_in st d.object) & ltb (D0 w.p2) (positions_in st s.object)) PgtAddr
  need (ltb (D0 w.p3) (2 ^ (size_at st s - size_at st d))) PgtAddr
  map_in_range st d s w
