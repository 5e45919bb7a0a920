-- `reading::directories::position_at` meets its contract: the position lies in the part, and past the last one is empty.
use mathlib.Core.Path.{sym, ◌∙◌}
use Prim.Native.Nat.{◌+◌, ◌*◌, ◌<◌}
use native.Mathlib.Omega.{arith}
use borrow.Author.Rules.{rules}
use Rattle.state.proofs.Look.{position_past, position_known}
use Rattle.state.proofs.Parts.{position_part}
use Rattle.state.specs.Read.{read}
use Rattle.words.specs.Sizes.{slot_size, header_size, position_size, slots_for}
use Rattle.reading.proofs.directories.position_at.Goals as goal

pub returns-then-positions-i : goal.returns-then-positions-i
returns-then-positions-i c = let a = c.args in
    sym (position_past (read a.s.now) a.d a.i (rw c.positions_there-positions.ensures.0 at c.if-positions-i.true))

pub directory_slots-part-requires : goal.directory_slots-part-requires
directory_slots-part-requires c = let a = c.args in
    omega (arith, c.positions_there-positions.ensures.1)

pub position_of-requires : goal.position_of-requires
position_of-requires c = let a = c.args in
    omega (arith, c.if-positions-i.false, c.positions_there-positions.ensures.1)

pub returns : goal.returns
returns c = let a = c.args in
    let n = c.positions_there-positions in
    let in-it : a.i < n.result = c.if-positions-i.false in
    c.position_of.ensures
    ∙ rw c.directory_slots-part.ensures
    (position_part a.s.now (slot_size * a.d.0) (slot_size * slots_for (header_size + position_size * n.result)) _ (omega arith))
    ∙ sym (position_known a.s.now a.d a.i (search rules) (rw n.ensures.0 at in-it))
