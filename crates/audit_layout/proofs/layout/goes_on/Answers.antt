-- `audit_layout::layout::goes_on` meets its contract: the note of a later slot names the first.
use Rattle.std.proofs.Common.{ap, rules, sym, ◌∙◌, ℕ, nat_eq}
use borrow.Author.Tests.{ne_eqb}
use Rattle.audit_layout.proofs.Slots.{goes_known, goes_other}
use Rattle.audit_layout.proofs.layout.goes_on.Goals as goal

pub returns-then-tag_in-eq-LATER_TAG : goal.returns-then-tag_in-eq-LATER_TAG
returns-then-tag_in-eq-LATER_TAG c =
    let a = c.args in
    let tag = sym c.tag_in.ensures ∙ c.if-tag_in-eq-LATER_TAG.true in
    ap (λ (n : ℕ). nat_eq n a.first.0) c.argument_in.ensures ∙ sym (goes_known a.s.now a.k (search rules) a.first tag)

pub returns-else-tag_in-eq-LATER_TAG : goal.returns-else-tag_in-eq-LATER_TAG
returns-else-tag_in-eq-LATER_TAG c =
    let a = c.args in
    let d = c.if-tag_in-eq-LATER_TAG.false in
    ne_eqb _ _ d ∙ sym (goes_other a.s.now a.k (search rules) a.first (λ x. d (c.tag_in.ensures ∙ x)))
