-- What a table's part says of its entries, and what the words of an entry say of the right that it holds.
use mathlib.Core.Bool.{Bool, false, true}
use mathlib.Core.List.{List}
use mathlib.Core.Logic.{inl, inr, ◌⊎◌}
use mathlib.Core.Path.{refl, sym, ◌∙◌, ◌≡◌}
use Prim.Native.Nat.{◌*◌, ◌<◌, suc, zero, ℕ, ◌≤◌}
use native.Mathlib.Omega.{arith}
use lib.Dec.{eqb, ltb}
use lib.ListN.{drop, length, length-drop, length-take, take}
use borrow.Author.Tests.{eqb-false, eqb-true, ltb-false, ltb-true}
use Rattle.state.proofs.Look.{place_known}
use Rattle.state.proofs.Parts.{place_part}
use Rattle.state.proofs.Write.{place_room}
use Rattle.state.specs.Layout.{Laid}
use Rattle.state.specs.Read.{held, place_from, place_of, read}
use Rattle.state.specs.State.{State, entries_in, place_at}
use Rattle.words.specs.Fields.{address}
use Rattle.words.specs.Sizes.{entry_size, place_count, slot_count, slot_size, slots_for, state_length}
use Rattle.audit_entries.specs.Names.{None, Directory, Endpoint, Frost, Function, Memory, Origin, Place, Process, Slot, Table}

-- ---- the part of a table in a laid-out state
-- the slots of the table in slot t, which has n entries
abbrev pub slots_of : List ℕ → Slot → ℕ → List ℕ
slots_of b t n = take (slot_size * slots_for (entry_size * n)) (drop (slot_size * t.0) b)

-- a table has no more entries than kernel memory has room for
pub entries_few : (st : State) → Laid st → (t : Slot) → entries_in st t ≤ place_count
entries_few st w t = go (entries_in st t) refl
  where
    go : (n : ℕ) → entries_in st t ≡ n → n ≤ place_count
    go zero e = omega arith
    go (suc n) e = let room = place_room st w (record { table = t; entry = n }) (rw e (omega arith)) in omega arith

module _ (b : List ℕ) (long : length b ≡ state_length) (t : Slot) (ht : t.0 < slot_count) where
  -- it has room for the entries
  pub part_room : Laid (read b) → entry_size * entries_in (read b) t ≤ length (slots_of b t (entries_in (read b) t))
  part_room w = go (entries_in (read b) t) refl
    where
      go : (n : ℕ) → entries_in (read b) t ≡ n → entry_size * n ≤ length (slots_of b t n)
      go zero e = omega arith
      go (suc n) e =
          let room = place_room (read b) w (record { table = t; entry = n }) (rw e (omega arith)) in
          simp (length-take, length-drop) (omega arith)

  -- and an entry read in it is the entry
  pub part_place : (e : ℕ) → e < entries_in (read b) t → place_of (slots_of b t (entries_in (read b) t)) (entry_size * e) ≡ place_at (read b) t e
  part_place e h =
      place_part b (slot_size * t.0) (slot_size * slots_for (entry_size * entries_in (read b) t)) (entry_size * e) (omega arith)
      ∙ sym (place_known b t e ht h)

-- ---- an entry by its kind's number: six kinds of right, and every other number is blank
module _ (P : Place → Type 0) (t : ℕ) (o : Slot) (l h f : ℕ) (x : Frost) (r : Origin) where
  pub place_cases :
      (t ≡ 1 → P (held (Table o) f x r))
      → (t ≡ 2 → P (held (Directory o l h) f x r))
      → (t ≡ 3 → P (held (Memory (address l) (address h)) f x r))
      → (t ≡ 4 → P (held (Process o) f x r))
      → (t ≡ 5 → P (held (Endpoint o) f x r))
      → (t ≡ 6 → P (held (Function l h) f x r))
      → ((t ≡ 0) ⊎ (6 < t) → P None)
      → P (place_from t o l h f x r)
  unfolding place_from
  place_cases f1 f2 f3 f4 f5 f6 f0 = go (eqb t 1) (eqb t 2) (eqb t 3) (eqb t 4) (eqb t 5) (eqb t 6) refl refl refl refl refl refl
    where
      other : (t ≡ 1 → ⊥) → (t ≡ 2 → ⊥) → (t ≡ 3 → ⊥) → (t ≡ 4 → ⊥) → (t ≡ 5 → ⊥) → (t ≡ 6 → ⊥) → (z : Bool) → ltb 6 t ≡ z → (t ≡ 0) ⊎ (6 < t)
      other d1 d2 d3 d4 d5 d6 true e = inr (ltb-true _ _ e)
      other d1 d2 d3 d4 d5 d6 false e = let most : t ≤ 6 = ltb-false _ _ e in inl (omega arith)

      go : (z1 z2 z3 z4 z5 z6 : Bool) → eqb t 1 ≡ z1 → eqb t 2 ≡ z2 → eqb t 3 ≡ z3 → eqb t 4 ≡ z4 → eqb t 5 ≡ z5 → eqb t 6 ≡ z6 → P (place_from t o l h f x r)
      go true z2 z3 z4 z5 z6 e1 e2 e3 e4 e5 e6 = rw e1 (f1 (eqb-true _ _ e1))
      go false true z3 z4 z5 z6 e1 e2 e3 e4 e5 e6 = rw (e1, e2) (f2 (eqb-true _ _ e2))
      go false false true z4 z5 z6 e1 e2 e3 e4 e5 e6 = rw (e1, e2, e3) (f3 (eqb-true _ _ e3))
      go false false false true z5 z6 e1 e2 e3 e4 e5 e6 = rw (e1, e2, e3, e4) (f4 (eqb-true _ _ e4))
      go false false false false true z6 e1 e2 e3 e4 e5 e6 = rw (e1, e2, e3, e4, e5) (f5 (eqb-true _ _ e5))
      go false false false false false true e1 e2 e3 e4 e5 e6 = rw (e1, e2, e3, e4, e5, e6) (f6 (eqb-true _ _ e6))
      go false false false false false false e1 e2 e3 e4 e5 e6 =
          rw (e1, e2, e3, e4, e5, e6)
          (f0 (other (eqb-false _ _ e1) (eqb-false _ _ e2) (eqb-false _ _ e3) (eqb-false _ _ e4) (eqb-false _ _ e5) (eqb-false _ _ e6) (ltb 6 t) refl))
