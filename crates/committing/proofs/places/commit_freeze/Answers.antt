-- `committing::places::commit_freeze` meets its contract: `place_law`, with the clock as the stamp.
use Rattle.committing.proofs.Laws.{entry_room, place_law}
use Rattle.committing.proofs.places.commit_freeze.Goals as goal

pub store_place-requires : goal.store_place-requires
store_place-requires c =
    let a = c.args in
    entry_room a.s.now c.requires.well_formed a.at c.requires.ready

pub returns : goal.returns
returns c =
    let a = c.args in
    rw (c.store_place.ensures, c.frozen-p.ensures, c.clock.ensures, c.place_at.ensures)
    (place_law a.s.now c.requires.well_formed a.at _ c.requires.ready)
