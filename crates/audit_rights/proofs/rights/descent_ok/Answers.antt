-- `audit_rights::rights::descent_ok` meets its contract: the word 0 tells a root, any other the number of its parent.
use mathlib.Core.Path.{sym, ◌∙◌, ◌≡◌}
use native.Mathlib.Omega.{arith}
use Prim.Native.Nat.{◌-◌}
use borrow.Author.Tests.{eq-eqb, ne_eqb}
use Rattle.words.specs.Tests.{◌&◌}
use Rattle.state.specs.Read.{read, origin_from}
use Rattle.state.specs.State.{place_numbered}
use Rattle.audit_rights.specs.ButChain.{descends_but_chain}
use Rattle.audit_rights.specs.Names.{Thawed, Some}
use Rattle.audit_rights.proofs.Standing.{fits_same}
use Rattle.audit_rights.proofs.rights.descent_ok.Goals as goal

pub returns-then-flags-all_flags : goal.returns-then-flags-all_flags
unfolding descends_but_chain origin_from ◌&◌
returns-then-flags-all_flags c =
    rw (c.in-0.is, ← c.all_flags.ensures, eq-eqb _ _ c.if-flags-all_flags.true) c.is_whole.ensures

pub returns-else-flags-all_flags : goal.returns-else-flags-all_flags
unfolding descends_but_chain origin_from ◌&◌
returns-else-flags-all_flags c =
    rw (c.in-0.is, ← c.all_flags.ensures, ne_eqb _ _ c.if-flags-all_flags.false)

pub returns-in_default : goal.returns-in_default
unfolding descends_but_chain origin_from
returns-in_default c =
    let a = c.args in
    let child : a.parent ≡ 0 → ⊥ = λ z. omega arith in
    rw (ne_eqb _ _ child) (c.parent_ok.ensures ∙ sym (fits_same a.kind a.flags Thawed (Some (a.parent - 1)) (place_numbered (read a.s.now) (a.parent - 1))))
