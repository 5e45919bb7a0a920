-- `audit_objects::objects::object_ok` meets its contract: the tag tells which of the three it is, and of the rest nothing is asked that bytes could break.
use mathlib.Core.Path.{sym, ◌∙◌}
use native.Mathlib.Omega.{arith}
use borrow.Author.Rules.{rules}
use Rattle.state.specs.Read.{read}
use Rattle.audit_objects.proofs.Asked.{ok_else, count_small}
use Rattle.audit_objects.proofs.objects.object_ok.Goals as goal

pub returns-in_default : goal.returns-in_default
returns-in_default c =
    let a = c.args in
    let t = c.tag_at.ensures in
    let r = c.in_default.in_default-own.rest in
    sym (ok_else (read a.s.now) a.k (λ z. r.0.0.1 (t ∙ z)) (λ z. r.0.1 (t ∙ z)) (λ z. r.1 (t ∙ z))
    (count_small a.s.now a.k (search rules) (λ i. omega (arith, c.shared_slice_known-1.given i))))
