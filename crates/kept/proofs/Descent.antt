-- Parents and chains of rights, where one place changes: a right that fits under its parent still does.
use mathlib.Core.Bool.{false≢true, true}
use mathlib.Core.Logic.{◌≢◌}
use mathlib.Core.Path.{ap, refl, subst, sym, ◌∙◌, ◌≡◌}
use Prim.Native.Nat.{◌+◌, ℕ}
use native.Mathlib.Decide.{ℕ_discrete}
use Rattle.words.proofs.Tests.{and_both, and_left, and_right}
use Rattle.state.specs.Layout.{Laid}
use Rattle.state.specs.State.{State, place_numbered}
use Rattle.rules.specs.Commit.{froze}
use Rattle.rules.specs.WellFormed.{descends, parent_fits, right_ok}
use Rattle.rules.proofs.Chain.{Reaches, child, root}
use Rattle.rules.proofs.Codes.{reaches_test, test_reaches}
use Rattle.rules.proofs.Facts.{right_open}
use Rattle.rules.specs.Chains.{code_of, codes, origin_code}
use Rattle.kept.specs.Names.{None, Capability, Some, Origin, Place}
use Rattle.kept.proofs.Chain.{fresh_reaches, gone_reaches, same_reaches}

-- the right c fits under the place of number p, whose chain reaches a root
pub record Fits (st : State) (c : Capability) (p : ℕ) : Type 0 where
  pub parent : parent_fits c (place_numbered st p) ≡ true
  pub chain : Reaches (codes st) p

pub fits_of : (st : State) (c : Capability) (p : ℕ) → descends st c (Some p) ≡ true → Fits st c p
unfolding descends
fits_of st c p h = record { parent = and_left _ _ h; chain = test_reaches st p (and_right _ _ h) }

pub of_fits : (st : State) → Laid st → (c : Capability) (p : ℕ) → Fits st c p → descends st c (Some p) ≡ true
unfolding descends
of_fits st w c p f = and_both _ _ f.parent (reaches_test st w p f.chain)

-- a place that holds a right that stands reaches a root
pub reaches_right : (st : State) (c : Capability) (p : ℕ) → place_numbered st p ≡ Some c → right_ok st c ≡ true → Reaches (codes st) p
unfolding codes
reaches_right st c p q h = go c.origin refl (right_open st c h).descent
  where
    go : (o : Origin) → c.origin ≡ o → descends st c o ≡ true → Reaches (codes st) p
    go None e d = root (ap code_of q ∙ ap origin_code e)
    go (Some r) e d = child (ap code_of q ∙ ap origin_code e) (fits_of st c r d).chain

-- ---- no place changes
pub fits_same : (st st' : State) → ((n : ℕ) → place_numbered st' n ≡ place_numbered st n) → (c : Capability) (p : ℕ) → Fits st c p → Fits st' c p
unfolding codes
fits_same st st' same c p f = record { parent = ap (parent_fits c) (same p) ∙ f.parent; chain = same_reaches _ _ (λ y. ap code_of (same y)) p f.chain }

-- ---- the place of number x changes
module _ (st st' : State) (x : ℕ) (but : (n : ℕ) → n ≢ x → place_numbered st' n ≡ place_numbered st n) where
  but_code : (n : ℕ) → n ≢ x → codes st' n ≡ codes st n
  unfolding codes
  but_code n d = ap code_of (but n d)

  -- it was blank
  pub fits_fresh : place_numbered st x ≡ None → (c : Capability) (p : ℕ) → Fits st c p → Fits st' c p
  unfolding codes
  fits_fresh e c p f = record {
    parent = ap (parent_fits c) (but p (λ q. absurd (false≢true (sym (ap (parent_fits c) e) ∙ (rw q at f.parent))))) ∙ f.parent;
    chain = fresh_reaches (codes st) (codes st') x but_code (ap code_of e) p f.chain;
  }

  -- it had no child
  pub fits_gone : ((y : ℕ) → codes st y ≡ x + 2 → ⊥) → (c : Capability) (p : ℕ) → p ≢ x → Fits st c p → Fits st' c p
  fits_gone n c p d f = record {
    parent = ap (parent_fits c) (but p d) ∙ f.parent;
    chain = gone_reaches (codes st) (codes st') x but_code n p d f.chain;
  }

  -- the right there is frozen
  pub fits_frozen : (clock : ℕ) → place_numbered st' x ≡ froze clock (place_numbered st x) → (c : Capability) (p : ℕ) → Fits st c p → Fits st' c p
  unfolding codes
  fits_frozen clock e c p f = record {
    parent = elim (ℕ_discrete p x) [
      | yes q ↦ subst (λ (y : ℕ). parent_fits c (place_numbered st' y) ≡ true) (sym q) (ap (parent_fits c) e ∙ froze_fits (place_numbered st x) ∙ (rw q at f.parent))
      | no d ↦ ap (parent_fits c) (but p d) ∙ f.parent
    ];
    chain = same_reaches _ _ (λ y. same y (ℕ_discrete y x)) p f.chain;
  }
    where
      froze_code : (y : Place) → code_of (froze clock y) ≡ code_of y
      froze_code None = refl
      froze_code (Some a) = refl

      froze_fits : (y : Place) → parent_fits c (froze clock y) ≡ parent_fits c y
      froze_fits None = refl
      froze_fits (Some a) = refl

      same : (y : ℕ) → Dec (y ≡ x) → codes st' y ≡ codes st y
      same y (yes q) = rw q (ap code_of e ∙ froze_code (place_numbered st x))
      same y (no d) = but_code y d
