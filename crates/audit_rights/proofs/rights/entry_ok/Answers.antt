-- `audit_rights::rights::entry_ok` meets its contract: an entry of no kind is blank, and any other is a right of the kind that its first word tells.
use mathlib.Core.Path.{sym, ◌∙◌}
use native.Mathlib.Omega.{arith}
use Rattle.state.specs.Read.{read}
use Rattle.audit_rights.proofs.Compared.{entry_blank, entry_right}
use Rattle.audit_rights.proofs.rights.entry_ok.Goals as goal

pub returns-then-number-eq-BLANK : goal.returns-then-number-eq-BLANK
returns-then-number-eq-BLANK c =
    let a = c.args in
    sym (entry_blank (read a.s.now) a.p.now a.at (λ m n. omega (arith, c.word_in-number.ensures)))

pub returns : goal.returns
returns c =
    let a = c.args in
    let word = c.word_in-number.ensures in
    let small = c.shared_slice_known-2-1.given in
    let law = entry_right (read a.s.now) a.p.now a.at (λ i. omega (arith, small i)) (omega arith) (omega arith) in
    c.right_ok.ensures
    ∙ rw (c.kind_in-kind.ensures, c.word_in.ensures, c.word_in-2.ensures, word) (sym law)
