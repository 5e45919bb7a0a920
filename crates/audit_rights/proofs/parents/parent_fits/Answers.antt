-- `audit_rights::parents::parent_fits` meets its contract: the words compared are those of the entry.
use mathlib.Core.Path.{sym, ◌∙◌}
use borrow.Author.Tests.{eq-eqb, eqb-true, ne_eqb}
use Rattle.words.proofs.Tests.{and_no, and_yes}
use Rattle.words.specs.Rights.{subset}
use Rattle.audit_rights.specs.ButChain.{bare}
use Rattle.audit_rights.specs.Names.{None}
use Rattle.audit_rights.proofs.Compared.{parent_words}
use Rattle.audit_rights.proofs.parents.parent_fits.Goals as goal
use Rattle.audit_rights.proofs.parents.parent_fits.Goals.{then-kind_number-word_in, else-kind_number-word_in}

pub returns-then-inside_words : goal.returns-then-inside_words
unfolding subset
returns-then-inside_words c =
    let a = c.args in
    let law = parent_words (bare a.kind a.flags None) a.s.now a.at in
    elim c.if-kind_number-word_in.branch [
      | then-kind_number-word_in w ↦
          let same = sym c.kind_number.ensures ∙ w.if-kind_number-word_in.true ∙ c.word_in.ensures in
          let in-it = sym w.inside_words.ensures ∙ sym w.value-is ∙ c.if-inside_words.true in
          rw c.word_in-whole.ensures
          (sym
          (law ∙ and_yes _ _ (eq-eqb _ _ same)
          ∙ and_yes _ _ (rw (← w.word_in-then-kind_number-word_in-2.ensures, ← w.word_in-then-kind_number-word_in.ensures) in-it)))
      | else-kind_number-word_in w ↦ absurd (w.if-kind_number-word_in.false (eqb-true _ _ (sym w.value-is ∙ c.if-inside_words.true)))
    ]

pub returns-else-inside_words : goal.returns-else-inside_words
returns-else-inside_words c =
    let a = c.args in
    let law = parent_words (bare a.kind a.flags None) a.s.now a.at in
    let no = c.if-inside_words.false in
    no ∙ sym (law
    ∙ elim c.if-kind_number-word_in.branch [
      | then-kind_number-word_in w ↦
          let same = sym c.kind_number.ensures ∙ w.if-kind_number-word_in.true ∙ c.word_in.ensures in
          let out = sym w.inside_words.ensures ∙ sym w.value-is ∙ no in
          and_yes _ _ (eq-eqb _ _ same) ∙ and_no _ _ (rw (← w.word_in-then-kind_number-word_in-2.ensures, ← w.word_in-then-kind_number-word_in.ensures) out)
      | else-kind_number-word_in w ↦ and_no _ _ (ne_eqb _ _ (λ x. w.if-kind_number-word_in.false (c.kind_number.ensures ∙ x ∙ sym c.word_in.ensures)))
    ])
