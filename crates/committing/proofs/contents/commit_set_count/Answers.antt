-- `committing::contents::commit_set_count` meets its contract: `count_law`.
use mathlib.Core.Path.{◌∙◌}
use native.Mathlib.Omega.{arith}
use Rattle.committing.proofs.Laws.{slot_fits, count_law}
use Rattle.committing.proofs.contents.commit_set_count.Goals as goal

pub store_count-requires : goal.store_count-requires
store_count-requires c =
    let a = c.args in
    omega (arith, slot_fits a.s.now c.requires.well_formed a.endpoint (omega (arith, c.requires.ready.0)))

pub returns : goal.returns
returns c =
    let a = c.args in
    c.store_count.ensures ∙ count_law a.s.now c.requires.well_formed a.endpoint a.count a.taken c.requires.ready.0
