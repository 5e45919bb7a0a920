-- `committing::contents::commit_change_directory` meets its contract: `directory_law`.
use mathlib.Core.Path.{◌∙◌}
use native.Mathlib.Omega.{arith}
use Rattle.committing.proofs.Laws.{slot_fits, directory_law}
use Rattle.committing.proofs.contents.commit_change_directory.Goals as goal

pub store_directory_named-requires : goal.store_directory_named-requires
store_directory_named-requires c =
    let a = c.args in
    omega (arith, slot_fits a.s.now c.requires.well_formed a.process (omega (arith, c.requires.ready)))

pub returns : goal.returns
returns c =
    let a = c.args in
    c.store_directory_named.ensures ∙ directory_law a.s.now c.requires.well_formed a.process a.directory c.requires.ready
