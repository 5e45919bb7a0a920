-- `committing::creations::commit_create_directory` meets its contract: `directory_made`.
use Prim.Native.Nat.{◌+◌, ◌*◌, ◌^◌}
use native.Mathlib.Omega.{arith}
use Rattle.words.specs.Sizes.{header_size, position_size, slots_for}
use Rattle.committing.proofs.Laws.{new_room, entry_room, directory_made}
use Rattle.committing.proofs.Sizes.{widths}
use Rattle.committing.proofs.creations.commit_create_directory.Goals as goal

pub overflow_mul-positions : goal.overflow_mul-positions
overflow_mul-positions c = omega (arith, widths c.args.shape.number _ c.requires.ready.number c.positions_for-positions.ensures)

pub overflow_add-positions : goal.overflow_add-positions
overflow_add-positions c = omega (arith, widths c.args.shape.number _ c.requires.ready.number c.positions_for-positions.ensures)

pub overflow_sub-kind : goal.overflow_sub-kind
overflow_sub-kind c = omega (arith, widths c.args.shape.number _ c.requires.ready.number c.positions_for-positions.ensures)

pub raise-requires : goal.raise-requires
raise-requires c =
    let a = c.args in
    let w = widths a.shape.number _ c.requires.ready.number c.positions_for-positions.ensures in
    let r = new_room a.s.now c.requires.well_formed a.first (slots_for (header_size + position_size * 2 ^ a.shape.number)) c.requires.ready.site.fits in
    rw (c.slots_for.ensures, w.0)
    record { notes_inside = r.0; slots_inside = r.1; some_slots = omega arith; entry_inside = entry_room a.s.now c.requires.well_formed a.at c.requires.ready.site.entry }

pub returns : goal.returns
returns c =
    let a = c.args in
    let w = widths a.shape.number _ c.requires.ready.number c.positions_for-positions.ensures in
    rw (c.raise.ensures, c.from.ensures, c.slots_for.ensures, w.0)
    (directory_made a.s.now c.requires.well_formed a.at a.first a.shape c.requires.ready)
