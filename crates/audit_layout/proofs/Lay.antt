-- The layout as a loop over the slots goes: what is left of it from slot k on, of which some slots still belong to the object before.
use mathlib.Core.Bool.{Bool, false, true}
use mathlib.Core.List.{List, ◌∷◌}
use mathlib.Core.Path.{ap, refl, sym, ◌∙◌, ◌≡◌}
use Prim.Native.Nat.{◌+◌, ◌-◌, ◌<◌, suc, zero, ℕ, ◌≤◌}
use native.Mathlib.Numerals.{add-one}
use native.Mathlib.Omega.{arith}
use lib.Dec.{eqb}
use lib.ListN.{drop, drop_of_length-le, length}
use lib.Seq.{drop-cons}
use borrow.Author.Tests.{eq-eqb, ne_eqb}
use Rattle.rules.specs.WellFormed.{apart}
use Rattle.state.proofs.Look.{slots_length}
use Rattle.state.specs.Layout.{goes_on, lay}
use Rattle.state.specs.Read.{read}
use Rattle.state.specs.State.{State, free, obj_at, size_of}
use Rattle.words.proofs.Tests.{and_yes}
use Rattle.words.specs.Fields.{slot}

unfoldable pub lay_from : State → ℕ → ℕ → ℕ → Bool
lay_from st c h k = lay k c (slot h) (drop k st.slots)

pub lay_start : (b : List ℕ) → apart (read b) ≡ lay_from (read b) 0 0 0
unfolding apart lay_from
lay_start b = and_yes _ _ (eq-eqb _ _ (slots_length b))

-- ---- one slot more
module _ (st : State) (h k : ℕ) (in_it : k < length st.slots) where
  next : drop k st.slots ≡ obj_at st (slot k) ∷ drop (suc k) st.slots
  next = drop-cons st.slots k free in_it

  -- an object cannot start with a later slot
  pub lay_none : size_of (obj_at st (slot k)) ≡ 0 → lay_from st 0 h k ≡ false
  unfolding lay_from lay
  lay_none e = ap (lay k 0 (slot h)) next ∙ rw (e, lay)

  -- an object starts here
  pub lay_new : (n : ℕ) → size_of (obj_at st (slot k)) ≡ n → (n ≡ 0 → ⊥) → lay_from st 0 h k ≡ lay_from st (n - 1) k (k + 1)
  unfolding lay_from lay
  lay_new zero e z = absurd (z refl)
  lay_new (suc m) e z =
      let q : m ≡ suc m - 1 = omega arith in
      let step : lay_from st 0 h k ≡ lay_from st (suc m - 1) k (suc k) = ap (lay k 0 (slot h)) next ∙ rw (← q, e, lay) in
      step ∙ ap (λ (j : ℕ). lay_from st (suc m - 1) k j) (sym (add-one k))

  -- the object before goes on here, or not
  pub lay_more : (c : ℕ) → (c ≡ 0 → ⊥) → goes_on (slot h) (obj_at st (slot k)) ≡ true → lay_from st c h k ≡ lay_from st (c - 1) h (k + 1)
  unfolding lay_from lay
  lay_more zero z e = absurd (z refl)
  lay_more (suc c) z e =
      let q : c ≡ suc c - 1 = omega arith in
      let step : lay_from st (suc c) h k ≡ lay_from st (suc c - 1) h (suc k) = ap (lay k (suc c) (slot h)) next ∙ rw (← q, e, lay) in
      step ∙ ap (λ (j : ℕ). lay_from st (suc c - 1) h j) (sym (add-one k))

  pub lay_stops : (c : ℕ) → (c ≡ 0 → ⊥) → goes_on (slot h) (obj_at st (slot k)) ≡ false → lay_from st c h k ≡ false
  unfolding lay_from lay
  lay_stops zero z e = absurd (z refl)
  lay_stops (suc c) z e = ap (lay k (suc c) (slot h)) next ∙ rw (e, lay)

-- ---- behind the last slot nothing may be owed
pub lay_end : (st : State) (c h k : ℕ) → length st.slots ≤ k → lay_from st c h k ≡ eqb c 0
unfolding lay_from lay
lay_end st zero h k l = rw (drop_of_length-le st.slots l)
lay_end st (suc c) h k l = ap (lay k (suc c) (slot h)) (drop_of_length-le st.slots l) ∙ sym (ne_eqb (suc c) 0 (λ z. omega arith))

-- nor behind the slots that are used, where m slots are free
pub lay_vacant : (st : State) (m c h k : ℕ) → k + m ≡ length st.slots → ((j : ℕ) → k ≤ j → j < length st.slots → obj_at st (slot j) ≡ free)
    → lay_from st c h k ≡ eqb c 0
lay_vacant st zero c h k e f = lay_end st c h k (omega arith)
lay_vacant st (suc m) zero h k e f =
    lay_new st h k (omega arith) 1 (ap size_of (f k (omega arith) (omega arith))) (λ z. omega arith)
    ∙ lay_vacant st m 0 k (k + 1) (omega arith) (λ j a l. f j (omega arith) l)
lay_vacant st (suc m) (suc c) h k e f =
    lay_stops st h k (omega arith) (suc c) (λ z. omega arith) (ap (goes_on (slot h)) (f k (omega arith) (omega arith))) ∙ sym (ne_eqb (suc c) 0 (λ z. omega arith))
