-- `committing::contents::commit_set_position` meets its contract: `position_law`.
use mathlib.Core.Path.{◌∙◌}
use Rattle.committing.proofs.Laws.{position_fits, position_law}
use Rattle.committing.proofs.contents.commit_set_position.Goals as goal

pub store_position-requires : goal.store_position-requires
store_position-requires c =
    let a = c.args in
    (position_fits a.s.now c.requires.well_formed a.directory a.position c.requires.ready.0, c.requires.ready.1)

pub returns : goal.returns
returns c =
    let a = c.args in
    c.store_position.ensures ∙ position_law a.s.now c.requires.well_formed a.directory a.position a.to c.requires.ready.0
