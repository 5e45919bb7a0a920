-- The walk up a chain, and the marks that it leaves.
use mathlib.Core.Bool.{false, true}
use mathlib.Core.List.{List}
use mathlib.Core.Path.{ap, refl, sym, ◌∙◌, ◌≡◌}
use Prim.Native.Nat.{◌+◌, ◌-◌, ◌<◌, suc, zero, ℕ, ◌≤◌}
use native.Mathlib.Decide.{ℕ_discrete}
use native.Mathlib.Nat.{not-suc-le-zero}
use native.Mathlib.Numerals.{add-two}
use native.Mathlib.Omega.{arith}
use lib.ListN.{get_or, length-replicate, length-set, replicate, set}
use lib.Seq.{get_or-set_other}
use Rattle.rules.proofs.Chain.{Reaches, To, back, here, snoc, used_of}
use Rattle.rules.proofs.Codes.{reaches_test, same_test}
use Rattle.rules.proofs.Fuel.{onward, within}
use Rattle.rules.specs.Chains.{code_of}
use Rattle.rules.specs.WellFormed.{reaches}
use Rattle.state.proofs.Zeros.{copies}
use Rattle.state.specs.Layout.{Laid}
use Rattle.state.specs.State.{State, place_numbered}
use Rattle.words.specs.Sizes.{place_count}
use Rattle.audit_chains.specs.Chains.{Shown, codes, holds}
use Rattle.audit_chains.specs.Names.{None, Some, Place}

-- inside the walk from e, at x with `left` steps to go: x lies on e's chain, and the test of e has become the test of x
pub record Going (st : State) (e x left : ℕ) : Type 0 where
  pub came : To (codes st) e x
  pub same : reaches (place_numbered st) place_count e ≡ within (codes st) left x

module _ (st : State) (w : Laid st) where
  pub going_start : (e : ℕ) → Going st e e place_count
  going_start e = record { came = here refl; same = same_test st e }

  pub going_next : (e x q left : ℕ) → 0 < left → codes st x ≡ q + 2 → Going st e x left → Going st e q (left - 1)
  going_next e x q zero l c g = absurd (not-suc-le-zero l)
  going_next e x q (suc n) l c g =
      let k : suc n - 1 ≡ n = omega arith in
      record { came = snoc (codes st) e x q g.came c; same = rw k (g.same ∙ ap (λ (a : ℕ). onward a (within (codes st) n)) (c ∙ add-two q)) }

  -- it ends at a place that reaches a root, or has no step left
  pub going_root : (e x left : ℕ) → Going st e x left → Reaches (codes st) x → true ≡ reaches (place_numbered st) place_count e
  going_root e x left g r = sym (reaches_test st w e (back (codes st) e x g.came r))

  pub going_spent : (e x left : ℕ) → left ≤ 0 → Going st e x left → false ≡ reaches (place_numbered st) place_count e
  going_spent e x zero l g = sym g.same
  going_spent e x (suc n) l g = absurd (not-suc-le-zero l)

  -- a mark more, at a place that reaches a root
  pub shown_more : (m : List ℕ) (x : ℕ) → Reaches (codes st) x → Shown st m → Shown st (set m x 1)
  shown_more m x r s = record { long = length-set m x 1 ∙ s.long; shown = λ y h. at y h (ℕ_discrete y x) }
    where
      at : (y : ℕ) → (get_or (set m x 1) y 0 ≡ 0 → ⊥) → Dec (y ≡ x) → reaches (place_numbered st) place_count y ≡ true
      at y h (yes q) = rw q (reaches_test st w x r)
      at y h (no q) = s.shown y (λ z. h (get_or-set_other m x y 1 0 q ∙ z))

pub shown_none : (st : State) → Shown st (replicate place_count 0)
shown_none st = record { long = length-replicate {A = ℕ} place_count 0; shown = λ y h. absurd (h (copies place_count y 0)) }

-- ---- what reaches a root is no blank
used_holds : (p : Place) → (code_of p ≡ 0 → ⊥) → holds p ≡ true
used_holds None h = absurd (h refl)
used_holds (Some c) h = refl

pub reaches_holds : (st : State) (x : ℕ) → Reaches (codes st) x → holds (place_numbered st x) ≡ true
unfolding codes
reaches_holds st x r = used_holds (place_numbered st x) (used_of (codes st) x r)
