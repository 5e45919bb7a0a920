-- The end of the rule `construct`, after its arguments: p is the parent, c the child.
use Rattle.std.specs.Prelude.{not, ◌%◌, ◌+◌, eqb, ltb}
use Rattle.rules.specs.Calls.{in_span, is_empty, size_at}
use Rattle.state.specs.State.{State, position_at, positions_in, shape_at}
use Rattle.words.specs.Try.{◌>>◌, Try, need, Ok}
use Rattle.judging_pages.specs.Names.{Action, CapFlag, Child, PgtAddr, PgtMap, SetPosition, Span, Words}

unfoldable pub hang_under : State → Span → Span → Words → Try Action
hang_under st p c w = do
  need (ltb w.p2 (positions_in st p.object)) PgtAddr
  need (eqb (size_at st c + (shape_at st c.object).number) (size_at st p)) PgtAddr
  need (in_span p w.p2) CapFlag
  need (is_empty (position_at st p.object w.p2)) PgtMap
  need (not (shape_at st c.object).top) PgtMap
  Ok (SetPosition p.object w.p2 (Child c.object (w.p3 % 64)))
