-- `committing::creations::commit_create_process` meets its contract: `process_made`.
use native.Mathlib.Omega.{arith}
use Rattle.committing.proofs.Laws.{new_room, entry_room, process_made}
use Rattle.committing.proofs.creations.commit_create_process.Goals as goal

pub raise-requires : goal.raise-requires
raise-requires c =
    let a = c.args in
    let r = new_room a.s.now c.requires.well_formed a.first 1 c.requires.ready.fits in
    record { notes_inside = r.0; slots_inside = r.1; some_slots = omega (arith); entry_inside = entry_room a.s.now c.requires.well_formed a.at c.requires.ready.entry }

pub returns : goal.returns
returns c =
    let a = c.args in
    rw c.raise.ensures (process_made a.s.now c.requires.well_formed a.at a.first a.table a.directory c.requires.ready)
