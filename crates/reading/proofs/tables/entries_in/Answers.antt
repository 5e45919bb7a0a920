-- `reading::tables::entries_in` meets its contract: the note of a table has its entries.
use mathlib.Core.Path.{sym, ◌∙◌}
use borrow.Author.Rules.{rules}
use Rattle.state.proofs.Look.{entries_known, entries_none}
use Rattle.reading.proofs.tables.entries_in.Goals as goal

pub returns-then-tag_byte-eq-TABLE_TAG : goal.returns-then-tag_byte-eq-TABLE_TAG
returns-then-tag_byte-eq-TABLE_TAG c = let a = c.args in
    let tag = sym c.tag_byte.ensures ∙ c.if-tag_byte-eq-TABLE_TAG.true in
    c.argument_byte.ensures
    ∙ sym (entries_known a.s.now a.t (search rules) tag)

pub returns-else-tag_byte-eq-TABLE_TAG : goal.returns-else-tag_byte-eq-TABLE_TAG
returns-else-tag_byte-eq-TABLE_TAG c = let a = c.args in
    sym (entries_none a.s.now a.t (search rules) (λ x. c.if-tag_byte-eq-TABLE_TAG.false (c.tag_byte.ensures ∙ x)))
