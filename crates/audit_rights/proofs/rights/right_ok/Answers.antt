-- `audit_rights::rights::right_ok` meets its contract: its three questions are the parts of `right_but_chain`.
use mathlib.Core.Path.{sym, ◌∙◌}
use borrow.Author.Rules.{rules}
use borrow.Author.Tests.{tests}
use Rattle.words.proofs.Tests.{and_no, and_yes}
use Rattle.state.specs.Read.{read, origin_from}
use Rattle.audit_rights.proofs.Standing.{right_parts}
use Rattle.audit_rights.proofs.rights.right_ok.Goals as goal
use Rattle.audit_rights.proofs.rights.right_ok.Goals.{then-stands, else-stands}

pub returns-then-flags-all_flags : goal.returns-then-flags-all_flags
returns-then-flags-all_flags c =
    let a = c.args in
    let law = right_parts (read a.s.now) a.kind a.flags (origin_from a.parent) in
    let yes = c.if-flags-all_flags.true in
    elim c.if-stands.branch [
      | then-stands w ↦ c.descent_ok.ensures ∙ sym (law ∙ and_yes _ _ (sym c.stands.ensures ∙ w.if-stands.true) ∙ and_yes _ _ (rw (← w.all_flags.ensures) (sym w.value-is ∙ yes)))
      | else-stands w ↦ absurd (search (rules, tests, w, yes))
    ]

pub returns-else-flags-all_flags : goal.returns-else-flags-all_flags
returns-else-flags-all_flags c =
    let a = c.args in
    let law = right_parts (read a.s.now) a.kind a.flags (origin_from a.parent) in
    let no = c.if-flags-all_flags.false in
    elim c.if-stands.branch [
      | then-stands w ↦ no ∙ sym (law ∙ and_yes _ _ (sym c.stands.ensures ∙ w.if-stands.true) ∙ and_no _ _ (rw (← w.all_flags.ensures) (sym w.value-is ∙ no)))
      | else-stands w ↦ no ∙ sym (law ∙ and_no _ _ (sym c.stands.ensures ∙ w.if-stands.false))
    ]
