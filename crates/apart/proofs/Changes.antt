-- Each change keeps the invariant and the stretch: an object replaced, an object made, an object taken away.
use mathlib.Core.Logic.{inl, inr, ◌⊎◌}
use mathlib.Core.Path.{ap, ◌∙◌, ◌≡◌}
use Prim.Native.Nat.{◌+◌, ◌<◌, ℕ, ◌≤◌}
use native.Mathlib.Decide.{dec_lt, ℕ_discrete}
use native.Mathlib.Omega.{arith}
use lib.ListN.{get_or}
use Rattle.state.specs.State.{Object, State, free, places_of}
use Rattle.apart.specs.Demand3.{Joined, Same}
use Rattle.apart.specs.Names.{None}
use Rattle.apart.specs.Reach.{Covers, In, extent, extent_at, form_at, form_of}
use Rattle.apart.proofs.Invariant.{Far, Inv, Own, SafeAt, far_forms, own_on, safe_on}
use Rattle.apart.proofs.View.{Out, Put, Raised, Razed, Side, first, in_slot, later, outside, side}

-- an object replaced by one of its form
pub put_forms : (st r : State) (x : ℕ) (o : Object) → Put st r x o → form_of o ≡ form_at st x → (y : ℕ) → form_at r y ≡ form_at st y
put_forms st r x o w form y = go (ℕ_discrete y x)
  where
    go : Dec (y ≡ x) → form_at r y ≡ form_at st y
    go (yes e) = rw e (ap form_of w.here ∙ form)
    go (no d) = ap form_of (w.rest y d)

-- M: the ranges inside a memory right of the start. a, b: the stretch
module _ (M : ℕ → ℕ → Type 0) (a b : ℕ) where
  -- ---- an object replaced by one of its form
  module _ (st r : State) (x : ℕ) (o : Object) (w : Put st r x o) (form : form_of o ≡ form_at st x) where
    pub put_inv : (C R : ℕ → Type 0) → (C x → Own R o) → (R x → (j : ℕ) → SafeAt M a b st R (get_or (places_of o) j None)) → Inv M a b st C R → Inv M a b r C R
    put_inv C R own places h = record { own = λ p c. owns p c (ℕ_discrete p x); rights = λ t e q. rights t e q (ℕ_discrete t x) }
      where
        owns : (p : ℕ) → C p → Dec (p ≡ x) → Own R (in_slot r p)
        owns p c (yes e) = rw (e, w.here) (own (rw e at c))
        owns p c (no d) = rw (w.rest p d) (h.own p c)

        rights : (t e : ℕ) → R t → Dec (t ≡ x) → SafeAt M a b r R (get_or (places_of (in_slot r t)) e None)
        rights t e q (yes d) = rw (d, w.here) (safe_on M a b st r R R (λ u k. k) (far_forms M a b st r (put_forms st r x o w form)) (get_or (places_of o) e None) (places (rw d at q) e))
        rights t e q (no d) = rw (w.rest t d) (safe_on M a b st r R R (λ u k. k) (far_forms M a b st r (put_forms st r x o w form)) (get_or (places_of (in_slot st t)) e None) (h.rights t e q))

  -- ---- an object made in free slots that are clear of the stretch
  module _ (st r : State) (f n : ℕ) (o : Object) (w : Raised st r f n o) (size : extent (form_of o) ≡ n) (pos : 0 < n) (clear : (x : ℕ) → In a b x → Out f n x) where
    pub raised_far : (g : ℕ) → Far a b st g → Far a b r g
    raised_far g h x i p q = go (side f n g)
      where
        go : Side f n g → ⊥
        go (first e) = clear x i (rw e at p) (let z : x < f + extent (form_of o) = rw (e, w.head) at q in omega arith)
        go (later l m) = let z : x < g + 0 = rw (w.inner g l m) at q in omega arith
        go (outside d) = h x i p (rw (w.rest g d) at q)

    pub raised_same : ((x : ℕ) → f ≤ x → x < f + n → in_slot st x ≡ free) → Same a b st r
    raised_same v = record {
      slots = λ x i. ap form_of (w.rest x (clear x i));
      objects = λ g x i c. ap form_of (w.rest g (λ l m. let z = rw (v g l m) at c.1 in let y = c.0 in omega arith));
    }

    pub raised_inv : (C R : ℕ → Type 0) → ((j : ℕ) → get_or (places_of o) j None ≡ None) → Own R o → Inv M a b st C R → Inv M a b r (Joined C st r) (λ u. R u ⊎ (u ≡ f))
    raised_inv C R empty names h = record { own = λ p c. owns p c (side f n p); rights = λ t e q. rights t e q (side f n t) }
      where
        Q : ℕ → Type 0
        Q u = R u ⊎ (u ≡ f)

        owns : (p : ℕ) → Joined C st r p → Side f n p → Own Q (in_slot r p)
        owns p c (first d) = rw (d, w.head) (own_on R Q (λ u q. inl q) o names)
        owns p c (later l m) = rw (w.inner p l m) tt
        owns p (inl c) (outside d) = rw (w.rest p d) (own_on R Q (λ u q. inl q) (in_slot st p) (h.own p c))
        owns p (inr m) (outside d) = absurd (let k : 0 < extent_at st p = rw (w.rest p d) at m.0.after in let z = m.0.before in omega arith)

        rights : (t e : ℕ) → Q t → Side f n t → SafeAt M a b r Q (get_or (places_of (in_slot r t)) e None)
        rights t e q (first d) = rw (d, w.head, empty e) tt
        rights t e q (later l m) = rw (w.inner t l m) tt
        rights t e (inl q) (outside d) = rw (w.rest t d) (safe_on M a b st r R Q (λ u k. inl k) raised_far (get_or (places_of (in_slot st t)) e None) (h.rights t e q))
        rights t e (inr q) (outside d) = absurd (d (omega arith) (omega arith))

  -- ---- an object that is far, taken away
  module _ (st r : State) (f : ℕ) (w : Razed st r f (extent_at st f)) (far : Far a b st f) where
    raze_side : (g : ℕ) → Side f (extent_at st f) g → (in_slot r g ≡ free) ⊎ (in_slot r g ≡ in_slot st g)
    raze_side g (first e) = go (dec_lt g (f + extent_at st f))
      where
        go : Dec (g < f + extent_at st f) → (in_slot r g ≡ free) ⊎ (in_slot r g ≡ in_slot st g)
        go (yes l) = inl (w.gone g (omega arith) l)
        go (no l) = inr (w.rest g (λ p q. l q))
    raze_side g (later l m) = inl (w.gone g (omega arith) m)
    raze_side g (outside d) = inr (w.rest g d)

    pub raze_cases : (g : ℕ) → (in_slot r g ≡ free) ⊎ (in_slot r g ≡ in_slot st g)
    raze_cases g = raze_side g (side f (extent_at st f) g)

    razed_far : (g : ℕ) → Far a b st g → Far a b r g
    razed_far g h x i p q = go (raze_cases g)
      where
        go : (in_slot r g ≡ free) ⊎ (in_slot r g ≡ in_slot st g) → ⊥
        go (inl e) = let z : x < g + 0 = rw e at q in omega arith
        go (inr e) = h x i p (rw e at q)

    -- inner: behind an object's first slot no object begins
    pub razed_same : ((x : ℕ) → f < x → x < f + extent_at st f → extent_at st x ≡ 0) → Same a b st r
    razed_same inner = record {
      slots = λ x i. ap form_of (w.rest x (far x i));
      objects = λ g x i c. ap form_of (w.rest g (λ l m. go g x i c l m (ℕ_discrete g f)));
    }
      where
        go : (g x : ℕ) → In a b x → Covers st g x → f ≤ g → g < f + extent_at st f → Dec (g ≡ f) → ⊥
        go g x i c l m (yes e) = let p = c.0 in let q = rw e at c.1 in far x i (omega arith) (omega arith)
        go g x i c l m (no e) = let p = c.0 in let q = c.1 in let z : extent_at st g ≡ 0 = inner g (omega arith) m in omega arith

    pub razed_inv : (C R : ℕ → Type 0) → Inv M a b st C R → Inv M a b r C R
    razed_inv C R h = record { own = λ p c. owns p c (raze_cases p); rights = λ t e q. rights t e q (raze_cases t) }
      where
        owns : (p : ℕ) → C p → (in_slot r p ≡ free) ⊎ (in_slot r p ≡ in_slot st p) → Own R (in_slot r p)
        owns p c (inl d) = rw d tt
        owns p c (inr d) = rw d (h.own p c)

        rights : (t e : ℕ) → R t → (in_slot r t ≡ free) ⊎ (in_slot r t ≡ in_slot st t) → SafeAt M a b r R (get_or (places_of (in_slot r t)) e None)
        rights t e q (inl d) = rw d tt
        rights t e q (inr d) = rw d (safe_on M a b st r R R (λ u k. k) razed_far (get_or (places_of (in_slot st t)) e None) (h.rights t e q))
