-- `reading::directories::positions_there` meets its contract: the note of a directory has its number order.
use mathlib.Core.Path.{sym, ◌∙◌, ap}
use native.Mathlib.Omega.{arith}
use borrow.Author.Rules.{rules}
use Rattle.state.proofs.Few.{few_positions}
use Rattle.state.proofs.Look.{width_known, width_none}
use Rattle.state.specs.Read.{positions_for}
use Rattle.reading.proofs.directories.positions_there.Goals as goal

pub returns-then-tag_byte-eq-DIRECTORY_TAG : goal.returns-then-tag_byte-eq-DIRECTORY_TAG
returns-then-tag_byte-eq-DIRECTORY_TAG c = let a = c.args in
    let tag = sym c.tag_byte.ensures ∙ c.if-tag_byte-eq-DIRECTORY_TAG.true in
    let there = c.positions_for.ensures ∙ ap positions_for c.argument_byte.ensures ∙ sym (width_known a.s.now a.d (search rules) tag) in
    (there, omega (arith, there, few_positions a.s.now a.d (search rules)))

pub returns-else-tag_byte-eq-DIRECTORY_TAG : goal.returns-else-tag_byte-eq-DIRECTORY_TAG
returns-else-tag_byte-eq-DIRECTORY_TAG c = let a = c.args in
    (sym (width_none a.s.now a.d (search rules) (λ x. c.if-tag_byte-eq-DIRECTORY_TAG.false (c.tag_byte.ensures ∙ x))), omega arith)
