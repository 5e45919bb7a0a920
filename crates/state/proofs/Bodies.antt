-- In a laid-out state a slot that goes on lies behind the first slot of the object that it names, and within that object.
use mathlib.Core.Bool.{true}
use mathlib.Core.List.{List, [], ◌∷◌}
use mathlib.Core.Logic.{inl, inr, ◌⊎◌}
use mathlib.Core.Path.{ap, subst, sym, ◌∙◌, ◌≡◌}
use Prim.Native.Nat.{◌+◌, ◌<◌, suc, zero, ℕ, ◌≤◌}
use native.Mathlib.Omega.{arith}
use lib.ListN.{get_or}
use Rattle.words.specs.Fields.{slot}
use Rattle.state.specs.Layout.{Laid, lay}
use Rattle.state.specs.Names.{Slot}
use Rattle.state.specs.State.{Object, State, body, directory, endpoint, first_of, free, obj_at, process, size_of, table}
use Rattle.state.proofs.Sizes.{goes_body, lay_suc, lay_zero}

-- what goes on in slot i goes on from an object that reaches it
abbrev From : List Object → ℕ → ℕ → Slot → ℕ → Slot → Type 0
From xs k c h i g = ((i < c) × (g.0 ≡ h.0)) ⊎ ((a : ℕ) × (g.0 ≡ k + a) × (a < i) × (i < a + size_of (get_or xs a free)))

body_slot : Object → ℕ
body_slot free = 0
body_slot (body h) = h.0
body_slot (table ps) = 0
body_slot (directory g es) = 0
body_slot (process t d) = 0
body_slot (endpoint c b) = 0

body_eq : (g h : Slot) → body g ≡ body h → g.0 ≡ h.0
unfolding body_slot
body_eq g h e = ap body_slot e

lay_from_lem : (xs : List Object) (k c : ℕ) (h : Slot) → lay k c h xs ≡ true → (i : ℕ) (g : Slot) → get_or xs i free ≡ body g → From xs k c h i g
lay_from_lem [] k c h l i g e = absurd (let z : 1 ≡ 0 = ap size_of e in omega arith)
lay_from_lem (o ∷ os) k zero h l zero g e = let s = lay_zero k h o os l in absurd (let z : size_of o ≡ 0 = ap size_of e in omega (arith, s.1))
lay_from_lem (o ∷ os) k (suc c) h l zero g e = inl (omega arith, body_eq g h (sym e ∙ goes_body h o (lay_suc k c h o os l).0))
lay_from_lem (o ∷ os) k zero h l (suc i) g e =
    let s = lay_zero k h o os l in
    elim (lay_from_lem os (suc k) s.0 (slot k) s.2 i g e) [
      | inl q ↦ inr (0, omega (arith, q.1), omega arith, omega (arith, q.0, s.1))
      | inr q ↦ inr (suc q.0, omega (arith, q.1), omega (arith, q.2), (let z = q.3 in omega arith))
    ]
lay_from_lem (o ∷ os) k (suc c) h l (suc i) g e =
    elim (lay_from_lem os (suc k) c h (lay_suc k c h o os l).1 i g e) [
      | inl q ↦ inl (omega (arith, q.0), q.1)
      | inr q ↦ inr (suc q.0, omega (arith, q.1), omega (arith, q.2), (let z = q.3 in omega arith))
    ]

module _ (st : State) (w : Laid st) where
  pub record Part (i : ℕ) (g : Slot) : Type 0 where
    pub after : g.0 < i
    pub within : i < g.0 + size_of (obj_at st g)

  pub part_of : (i : ℕ) (g : Slot) → obj_at st (slot i) ≡ body g → Part i g
  part_of i g e = elim (lay_from_lem st.slots 0 0 (slot 0) w.laid i g e) [
    | inl q ↦ absurd (let z = q.0 in omega arith)
    | inr q ↦ (let a : g.0 ≡ q.0 = omega (arith, q.1) in record { after = omega (arith, a, q.2); within = subst (λ (x : ℕ). i < x + size_of (get_or st.slots x free)) (sym a) q.3 })
  ]

  -- so an object begins at each of its slots or before it
  pub first_le : (k : ℕ) (o : Object) → obj_at st (slot k) ≡ o → (first_of k o).0 ≤ k
  first_le k free e = omega arith
  first_le k (body g) e = omega (arith, (part_of k g e).after)
  first_le k (table ps) e = omega arith
  first_le k (directory g es) e = omega arith
  first_le k (process t d) e = omega arith
  first_le k (endpoint c b) e = omega arith
