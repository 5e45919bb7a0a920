-- `committing::places::commit_fill` meets its contract: `place_law`.
use mathlib.Core.Path.{◌∙◌}
use Rattle.committing.proofs.Laws.{entry_room, place_law}
use Rattle.committing.specs.Names.{Some}
use Rattle.committing.proofs.places.commit_fill.Goals as goal

pub store_place-requires : goal.store_place-requires
store_place-requires c =
    let a = c.args in
    entry_room a.s.now c.requires.well_formed a.at c.requires.ready

pub returns : goal.returns
returns c =
    let a = c.args in
    c.store_place.ensures ∙ place_law a.s.now c.requires.well_formed a.at (Some a.right) c.requires.ready
