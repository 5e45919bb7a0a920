-- `committing::contents::commit_change_table` meets its contract: `table_law`.
use mathlib.Core.Path.{◌∙◌}
use native.Mathlib.Omega.{arith}
use Rattle.committing.proofs.Laws.{slot_fits, table_law}
use Rattle.committing.proofs.contents.commit_change_table.Goals as goal

pub store_table_named-requires : goal.store_table_named-requires
store_table_named-requires c =
    let a = c.args in
    omega (arith, slot_fits a.s.now c.requires.well_formed a.process (omega (arith, c.requires.ready)))

pub returns : goal.returns
returns c =
    let a = c.args in
    c.store_table_named.ensures ∙ table_law a.s.now c.requires.well_formed a.process a.table c.requires.ready
