-- `committing::deletions::commit_delete` meets its contract: `delete_law`.
use native.Mathlib.Omega.{arith}
use Rattle.committing.proofs.Laws.{long, entry_room, old_room, delete_law}
use Rattle.committing.proofs.deletions.commit_delete.Goals as goal

pub store_place-requires : goal.store_place-requires
store_place-requires c =
    let a = c.args in
    entry_room a.s.now c.requires.well_formed a.at c.requires.ready.entry

pub clear_notes-requires : goal.clear_notes-requires
clear_notes-requires c =
    let a = c.args in
    omega (arith, long a.s.now c.requires.well_formed, old_room a.s.now c.requires.well_formed a.object c.requires.ready.stands, c.size_at-n.ensures)

pub clear_slots-requires : goal.clear_slots-requires
clear_slots-requires c =
    let a = c.args in
    omega (arith, long a.s.now c.requires.well_formed, old_room a.s.now c.requires.well_formed a.object c.requires.ready.stands, c.size_at-n.ensures)

pub returns : goal.returns
returns c =
    let a = c.args in
    rw (c.clear_slots.ensures, c.clear_notes.ensures, c.store_place.ensures, c.size_at-n.ensures)
    (delete_law a.s.now c.requires.well_formed a.at a.object c.requires.ready)
