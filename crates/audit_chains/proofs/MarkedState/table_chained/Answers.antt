-- `audit_chains::MarkedState::table_chained` meets its contract: each entry is asked in turn, and the state stays.
use mathlib.Core.Path.{ap, refl, sym, ◌∙◌, ◌≡◌}
use Prim.Native.Nat.{◌*◌, ℕ}
use native.Mathlib.Numerals.{add-one}
use native.Mathlib.Omega.{arith}
use Rattle.state.specs.Read.{place_of, read}
use Rattle.words.proofs.Tests.{all_more, all_not, all_zero}
use Rattle.words.specs.Tests.{all_below}
use Rattle.audit_chains.specs.Chains.{place_chained}
use Rattle.audit_chains.proofs.MarkedState.table_chained.Goals as goal

pub loop-e-init : goal.loop-e-init
loop-e-init c = (refl, all_zero _)

pub entry_chained-requires : goal.entry_chained-requires
entry_chained-requires c =
    let l = c.loop-e in
    (omega (arith, c.requires.1), rw l.invariant.0 (c.requires.2 l.e c.loop-e-test.true))

pub returns-then-not-entry_chained-clause-told : goal.returns-then-not-entry_chained-clause-told
returns-then-not-entry_chained-clause-told c =
    let a = c.args in
    let l = c.loop-e in
    let told = rw l.invariant.0 at c.entry_chained.ensures.told in
    sym (all_not a.n (λ i. place_chained (read a.self.now.s.now) (place_of a.part.now (32 * i))) l.e c.loop-e-test.true (sym told ∙ c.if-not-entry_chained.true))

pub loop-e-preserved : goal.loop-e-preserved
loop-e-preserved c =
    let a = c.args in
    let l = c.loop-e in
    let told = rw l.invariant.0 at c.entry_chained.ensures.told in (
      c.entry_chained.ensures.state ∙ l.invariant.0,
      rw (add-one l.e) (all_more l.e (λ i. place_chained (read a.self.now.s.now) (place_of a.part.now (32 * i))) l.invariant.1 (sym told ∙ c.if-not-entry_chained.false)),
    )

pub returns-clause-told : goal.returns-clause-told
returns-clause-told c =
    let a = c.args in
    let l = c.loop-e in
    let done : l.e ≡ a.n = omega arith in
    sym (ap (λ (m : ℕ). all_below m (λ i. place_chained (read a.self.now.s.now) (place_of a.part.now (32 * i)))) (sym done) ∙ l.invariant.1)
