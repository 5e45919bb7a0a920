-- `reading::notes::first_at` meets its contract: the note of a slot in which an object goes on names its first slot.
use mathlib.Core.Path.{sym, ◌∙◌, ap}
use borrow.Author.Rules.{rules}
use Rattle.words.specs.Fields.{slot}
use Rattle.state.proofs.Look.{first_known, first_none}
use Rattle.reading.proofs.notes.first_at.Goals as goal

pub returns-then-tag_byte-eq-LATER_TAG : goal.returns-then-tag_byte-eq-LATER_TAG
returns-then-tag_byte-eq-LATER_TAG c = let a = c.args in
    let tag = sym c.tag_byte.ensures ∙ c.if-tag_byte-eq-LATER_TAG.true in
    ap slot c.argument_byte.ensures
    ∙ sym (first_known a.s.now a.k (search rules) tag a.k.0)

pub returns-else-tag_byte-eq-LATER_TAG : goal.returns-else-tag_byte-eq-LATER_TAG
returns-else-tag_byte-eq-LATER_TAG c = let a = c.args in
    sym (first_none a.s.now a.k (search rules) (λ x. c.if-tag_byte-eq-LATER_TAG.false (c.tag_byte.ensures ∙ x)) a.k.0)
