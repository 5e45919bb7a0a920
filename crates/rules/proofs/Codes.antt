-- The rule's test of a chain is the one over codes, and so says that the chain reaches a root, whatever its length.
use mathlib.Core.Bool.{true}
use mathlib.Core.Path.{ap, refl, sym, ◌∙◌, ◌≡◌}
use Prim.Native.Nat.{◌<◌, suc, zero, ℕ, ◌≤◌}
use native.Mathlib.Numerals.{add-two}
use Rattle.state.specs.Layout.{Laid}
use Rattle.state.specs.State.{State, place_numbered}
use Rattle.words.specs.Sizes.{place_count}
use Rattle.rules.specs.Chains.{code_of, codes}
use Rattle.rules.specs.Names.{Capability, None, Some, Origin, Place}
use Rattle.rules.specs.WellFormed.{reaches}
use Rattle.rules.proofs.Chain.{Reaches}
use Rattle.rules.proofs.Fuel.{enough, inside, within, within_reaches}
use Rattle.rules.proofs.Inside.{blank_past}

same_codes : (at : ℕ → Place) (n p : ℕ) → reaches at n p ≡ within (λ x. code_of (at x)) n p
unfolding reaches
same_codes at zero p = refl
same_codes at (suc n) p = go (λ r. same_codes at n r) (at p) refl
  where
    on : ((r : ℕ) → reaches at n r ≡ within (λ x. code_of (at x)) n r) → (c : Capability) (o : Origin) → at p ≡ Some c → c.origin ≡ o
        → reaches at (suc n) p ≡ within (λ x. code_of (at x)) (suc n) p
    on ih c None e q = rw (e, q, reaches)
    on ih c (Some r) e q = rw (e, q, reaches, add-two r) (ih r)

    go : ((r : ℕ) → reaches at n r ≡ within (λ x. code_of (at x)) n r) → (x : Place) → at p ≡ x
        → reaches at (suc n) p ≡ within (λ x. code_of (at x)) (suc n) p
    go ih None e = rw (e, reaches)
    go ih (Some c) e = on ih c c.origin e refl

module _ (st : State) where
  pub same_test : (x : ℕ) → reaches (place_numbered st) place_count x ≡ within (codes st) place_count x
  unfolding codes
  same_test x = same_codes (place_numbered st) place_count x

  pub test_reaches : (x : ℕ) → reaches (place_numbered st) place_count x ≡ true → Reaches (codes st) x
  test_reaches x t = within_reaches (codes st) place_count x (sym (same_test x) ∙ t)

  -- past the last slot all is blank
  module _ (w : Laid st) where
    code_past : (x : ℕ) → place_count ≤ x → codes st x ≡ 0
    unfolding codes
    code_past x h = ap code_of (blank_past st w x h)

    pub reaches_test : (x : ℕ) → Reaches (codes st) x → reaches (place_numbered st) place_count x ≡ true
    reaches_test x r = same_test x ∙ enough (codes st) place_count code_past x r

    pub reaches_inside : (x : ℕ) → Reaches (codes st) x → x < place_count
    reaches_inside x r = inside (codes st) place_count code_past x r
