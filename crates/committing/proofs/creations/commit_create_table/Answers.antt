-- `committing::creations::commit_create_table` meets its contract: `table_made`.
use Prim.Native.Nat.{◌*◌}
use native.Mathlib.Omega.{arith}
use Rattle.words.specs.Sizes.{entry_size, slots_for}
use Rattle.committing.proofs.Laws.{new_room, entry_room, table_made}
use Rattle.committing.proofs.creations.commit_create_table.Goals as goal

pub raise-requires : goal.raise-requires
raise-requires c =
    let a = c.args in
    let r = new_room a.s.now c.requires.well_formed a.first (slots_for (entry_size * a.entries)) c.requires.ready.site.fits in
    rw c.slots_for.ensures record { notes_inside = r.0; slots_inside = r.1; some_slots = omega (arith, c.requires.ready.some); entry_inside = entry_room a.s.now c.requires.well_formed a.at c.requires.ready.site.entry }

pub returns : goal.returns
returns c =
    let a = c.args in
    rw (c.raise.ensures, c.slots_for.ensures) (table_made a.s.now c.requires.well_formed a.at a.first a.entries c.requires.ready)
