-- "A place to delete": the root there taken away, and its object with it, leave a well-formed state, where the object holds no right, has no
-- user and hangs nowhere, and the root has no child.
use mathlib.Core.Bool.{Bool, false, false≢true, true}
use mathlib.Core.Logic.{inl, inr, ◌≢◌, ◌⊎◌}
use mathlib.Core.Path.{◌∙◌, ◌≡◌, ap, refl, subst, sym}
use Prim.Native.Nat.{◌+◌, ◌<◌, suc, ℕ}
use native.Mathlib.Decide.{ℕ_discrete}
use native.Mathlib.Nat.{add-zero}
use native.Mathlib.Omega.{arith}
use lib.Dec.{eqb}
use lib.ListN.{get_or, length}
use borrow.Author.Tests.{eq-eqb, eqb-true}
use Rattle.passed.specs.Found.{Stands}
use Rattle.rules.proofs.Inside.{laid_out, stands_inside}
use Rattle.rules.proofs.Named.{some_tag}
use Rattle.rules.specs.Calls.{hangs_somewhere, is_child_at}
use Rattle.rules.specs.Formed.{Formed}
use Rattle.rules.specs.Places.{has_children, has_users, is_user_of}
use Rattle.rules.specs.WellFormed.{is_root_of, object_no, one, roots_of}
use Rattle.state.proofs.Run.{object_some}
use Rattle.state.proofs.Write.{is_directory}
use Rattle.state.specs.State.{Object, State, free, obj_at, place_at, places_of, position_at, positions_in, positions_of, process, put_place, raze}
use Rattle.words.proofs.Tests.{any_none, or_false}
use Rattle.words.specs.Fields.{slot}
use Rattle.words.specs.Rights.{is_blank, is_root}
use Rattle.kept.specs.Names.{None, Capability, Child, Empty, Some, Place, Slot, Spot}
use Rattle.kept.proofs.Base.{Base, base}
use Rattle.kept.proofs.Childless.{childless_fits}
use Rattle.kept.proofs.PutPlace.{place_apart, place_base, place_like, place_put, roots_less}
use Rattle.kept.proofs.Raze.{raze_base, raze_left, raze_roots}
use Rattle.kept.proofs.Roots.{Of, formed_of, root_here, root_other, rooted_at, rooted_same, rooted_no}
use Rattle.kept.proofs.Stand.{Bare}

not_eqb : (a b : ℕ) → eqb a b ≡ false → a ≢ b
not_eqb a b h e = absurd (false≢true (sym h ∙ eq-eqb a b e))

-- no position of a directory holds the directory at o
abbrev pub Unhung : State → Slot → Type 0
Unhung st o = (k j : ℕ) (d : Slot) (f : ℕ) → k < 256 → j < positions_in st (slot k) → position_at st (slot k) j ≡ Child d f → d.0 ≢ o.0

pub unhung : (st : State) (o : Slot) → hangs_somewhere st o ≡ false → Unhung st o
unfolding hangs_somewhere
unhung st o h k j d f hk hj q = not_eqb _ _ (sym (ap (is_child_at o) q) ∙ any_none _ _ (any_none 256 _ h k hk) j hj)

module _ (st : State) (w : Formed st) (p : Spot) (c : Capability) (o : Slot) (i : ℕ)
    (stands : Stands st p c) (number : object_no (obj_at st o) ≡ suc i) (orig : is_root c.origin ≡ true) (childless : has_children st p ≡ false) (userless : has_users st o ≡ false)
    (of : Of c.kind o i) (blank : (a : ℕ) → place_at st o a ≡ None) (hung : Unhung st o) where
  abbrev st₁ : State
  st₁ = put_place st p None

  abbrev st₂ : State
  st₂ = raze st₁ o

  -- the object is another than the table that holds its root
  apart_from : o.0 ≢ p.table.0
  apart_from q = absurd (false≢true (sym (ap is_blank stands.holds) ∙ ap (λ (m : ℕ). is_blank (place_at st (slot m) p.entry)) (sym q) ∙ ap is_blank (blank p.entry)))

  base₁ : Base st₁
  base₁ = place_base st (base w) p None stands.below refl (λ s j d q r n from f. childless_fits st w p stands.below childless s j d q n from f)

  -- what is no table is as it was
  same₁ : (k : ℕ) → object_no (obj_at st₁ (slot k)) ≢ 1 → obj_at st₁ (slot k) ≡ obj_at st (slot k)
  same₁ k d = elim (ℕ_discrete k p.table.0) [
    | yes q ↦ absurd (d (ap (λ (m : ℕ). object_no (obj_at st₁ (slot m))) q ∙ ap object_no (place_put st (base w) p None stands.below)))
    | no m ↦ place_apart st (base w) p None stands.below k m
  ]

  o_same : obj_at st₁ o ≡ obj_at st o
  o_same = place_apart st (base w) p None stands.below o.0 apart_from

  bare : Bare (obj_at st₁ o) i
  bare = record {
    number = ap object_no o_same ∙ number;
    some = object_some st₁ base₁.laid o (some_tag (obj_at st₁ o) (omega (arith, ap object_no o_same ∙ number)));
    blank = λ a. ap (λ (x : Object). get_or (places_of x) a None) o_same ∙ blank a;
  }

  less : (n : ℕ) (q : Slot) → roots_of st n q ≡ roots_of st₁ n q + one (is_root_of n q (Some c))
  less n q = roots_less st (base w) p None stands.below refl n q ∙ ap (λ (p : Place). roots_of st₁ n q + one (is_root_of n q p)) stands.holds

  rootless : roots_of st₁ (suc i) o ≡ 0
  rootless =
      let single_root : roots_of st (suc i) o ≡ 1 = eqb-true _ _ (sym (ap (rooted_no st o) number) ∙ rooted_at st w o.0 (stands_inside st (laid_out w) o i number)) in
      let z : roots_of st (suc i) o ≡ roots_of st₁ (suc i) o + 1 = less (suc i) o ∙ ap (λ (b : Bool). roots_of st₁ (suc i) o + one b) (root_here c o i of orig) in
      omega arith

  users₁ : (k : ℕ) (a d : Slot) → k < 256 → obj_at st₁ (slot k) ≡ process a d → (a.0 ≢ o.0) × (d.0 ≢ o.0)
  unfolding has_users
  users₁ k a d hk q =
      let p : obj_at st (slot k) ≡ process a d = sym (same₁ k (λ z. let y : 4 ≡ 1 = sym (ap object_no q) ∙ z in omega arith)) ∙ q in
      let v = or_false _ _ (sym (ap (is_user_of o) p) ∙ any_none 256 _ userless k hk) in
      (not_eqb _ _ v.0, not_eqb _ _ v.1)

  hung₁ : Unhung st₁ o
  hung₁ k j d f hk hj q =
      let p : obj_at st₁ (slot k) ≡ obj_at st (slot k) = same₁ k (λ z. let y : object_no (obj_at st₁ (slot k)) ≡ 2 = ap object_no (is_directory (obj_at st₁ (slot k)) j hj) in omega arith) in
      hung k j d f hk (subst (λ (x : Object). j < length (positions_of x)) p hj) (sym (ap (λ (x : Object). get_or (positions_of x) j Empty) p) ∙ q)

  -- ---- the roots: one less, that of the object
  same₂ : (n : ℕ) (q : Slot) → (suc i ≡ n → q.0 ≡ o.0 → ⊥) → roots_of st₂ n q ≡ roots_of st n q
  same₂ n q d =
      raze_roots st₁ base₁ o i bare rootless users₁ hung₁ n q
      ∙ sym (less n q ∙ ap (λ (b : Bool). roots_of st₁ n q + one b) (root_other c o i of n q d) ∙ add-zero (roots_of st₁ n q))

  rooted₂ : (z : ℕ) → z < 256 → (obj_at st₂ (slot z) ≡ free) ⊎ ((obj_at st₂ (slot z) ≡ obj_at st₁ (slot z)) × (z ≢ o.0)) → rooted_no st₂ (slot z) (object_no (obj_at st₂ (slot z))) ≡ true
  rooted₂ z hz (inl q) = ap (λ (x : Object). rooted_no st₂ (slot z) (object_no x)) q
  rooted₂ z hz (inr q) =
      ap (rooted_no st₂ (slot z)) (ap object_no q.0 ∙ (place_like st (base w) p None stands.below z).number)
      ∙ rooted_same st st₂ (slot z) (object_no (obj_at st (slot z))) (λ n. same₂ n (slot z) (λ _ y. q.1 y)) ∙ rooted_at st w z hz

  pub deleted : Formed st₂
  deleted =
      formed_of st₂ (raze_base st₁ base₁ o i bare rootless users₁ hung₁)
      (λ z hz. rooted₂ z hz (raze_left st₁ base₁ o i bare rootless users₁ hung₁ z))
      (same₂ 3 (slot 0) (λ q _. of.no_memory q) ∙ w.memory)
      (same₂ 6 (slot 0) (λ q _. of.no_function q) ∙ w.function)
