-- `reading::directories::shape_at` meets its contract: the note of a directory has its number order, and its header, which the part shows, the rest.
use mathlib.Core.Path.{sym, ◌∙◌, ap}
use Prim.Native.Nat.{ℕ, ◌*◌}
use native.Mathlib.Nat.{add-zero}
use native.Mathlib.Omega.{arith}
use borrow.Author.Rules.{rules}
use Rattle.words.specs.Sizes.{slot_size}
use Rattle.state.specs.Read.{word_at}
use Rattle.state.proofs.Look.{shape_known, shape_none}
use Rattle.state.proofs.Parts.{word_part}
use Rattle.reading.proofs.directories.shape_at.Goals as goal

pub returns-then-tag_byte-eq-DIRECTORY_TAG : goal.returns-then-tag_byte-eq-DIRECTORY_TAG
returns-then-tag_byte-eq-DIRECTORY_TAG c = let a = c.args in
    let at : ℕ = slot_size * a.d.0 in
    let tag = sym c.tag_byte.ensures ∙ c.if-tag_byte-eq-DIRECTORY_TAG.true in
    let size = word_part a.s.now at slot_size 0 (omega arith) ∙ ap (word_at a.s.now) (add-zero at) in
    let top = word_part a.s.now at slot_size 4 (omega arith) in
    let start = word_part a.s.now at slot_size 8 (omega arith) in
    rw (
      c.word_at.ensures,
      c.argument_byte.ensures,
      c.marked.ensures,
      c.word_at-then-tag_byte-eq-DIRECTORY_TAG.ensures,
      c.word_at-then-tag_byte-eq-DIRECTORY_TAG-2.ensures,
      c.slots_from-part.ensures,
      size,
      top,
      start,
    )
    (sym (shape_known a.s.now a.d (search rules) tag))

pub returns-else-tag_byte-eq-DIRECTORY_TAG : goal.returns-else-tag_byte-eq-DIRECTORY_TAG
returns-else-tag_byte-eq-DIRECTORY_TAG c = let a = c.args in
    sym (shape_none a.s.now a.d (search rules) (λ x. c.if-tag_byte-eq-DIRECTORY_TAG.false (c.tag_byte.ensures ∙ x)))
