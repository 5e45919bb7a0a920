-- The search for a child as its loops pass it: an entry in its table's part, the entries of a table, the tables of all slots.
use mathlib.Core.Bool.{Bool, false, true}
use mathlib.Core.List.{List}
use mathlib.Core.Path.{ap, refl, subst, sym, ◌∙◌, ◌≡◌}
use Prim.Native.Nat.{◌*◌, ◌+◌, ◌<◌, ℕ, ◌≤◌}
use native.Mathlib.Omega.{arith}
use lib.Dec.{eqb}
use lib.ListN.{drop, get_or, take}
use borrow.Author.Tests.{eqb-false, eqb-true}
use Rattle.rules.specs.Places.{has_children, is_child_of}
use Rattle.state.proofs.Look.{entries_known, entries_none, place_known, tag_byte}
use Rattle.state.proofs.Parts.{place_part}
use Rattle.state.specs.Read.{place_of, read}
use Rattle.state.specs.State.{entries_in, place_at, place_number}
use Rattle.words.proofs.Tests.{any_found}
use Rattle.words.specs.Fields.{slot}
use Rattle.words.specs.Sizes.{entry_size, memory_length, slot_count, slot_size, slots_for}
use Rattle.words.specs.Tests.{any_below}
use Rattle.judging_deletions.specs.Names.{Slot, Spot}

-- entry e of the table in slot k holds a child of the place of number n; some entry of that table does
abbrev pub child_at : List ℕ → ℕ → ℕ → ℕ → Bool
child_at b n k e = is_child_of n (place_at (read b) (slot k) e)

abbrev pub child_in : List ℕ → ℕ → ℕ → Bool
child_in b n k = any_below (entries_in (read b) (slot k)) (child_at b n k)

module _ (b : List ℕ) where
  -- a table has as many entries as a byte tells
  few : ((i : ℕ) → get_or b i 0 < 256) → (t : Slot) → t.0 < slot_count → entries_in (read b) t ≤ 255
  few f t h = go (eqb (tag_byte b t.0) 2) refl
    where
      go : (z : Bool) → eqb (tag_byte b t.0) 2 ≡ z → entries_in (read b) t ≤ 255
      go true q = omega (arith, entries_known b t h (eqb-true _ _ q), f (memory_length + 1 + 4 * t.0))
      go false q = omega (arith, entries_none b t h (eqb-false _ _ q))

  pub few_entries : ((i : ℕ) → get_or b i 0 < 256) → (k : ℕ) (t : Slot) → k < slot_count → t ≡ slot k → entries_in (read b) t ≤ 255
  few_entries f k t h q = rw q (few f (slot k) h)

  -- in the part that the table's slots are, the entry is the one of the state
  pub child_here : (part : List ℕ) (t : Slot) (k entries n e : ℕ) → k < slot_count → t ≡ slot k → entries ≡ entries_in (read b) t
      → part ≡ take (slot_size * slots_for (entry_size * entries)) (drop (slot_size * t.0) b) → e < entries
      → is_child_of n (place_of part (entry_size * e)) ≡ child_at b n k e
  child_here part t k entries n e h q m p l =
      let below : t.0 < slot_count = rw q h in
      ap (is_child_of n)
      (ap (λ (l : List ℕ). place_of l (entry_size * e)) p
      ∙ place_part b (slot_size * t.0) (slot_size * slots_for (entry_size * entries)) (entry_size * e) (omega arith)
      ∙ sym (place_known b t e below (rw m at l))
      ∙ ap (λ (x : Slot). place_at (read b) x e) q)

  -- where the loops end, and where they are left
  pub none_left : (p : Spot) (n k : ℕ) → n ≡ place_number p → k ≡ slot_count → any_below k (child_in b n) ≡ false → has_children (read b) p ≡ false
  unfolding has_children
  none_left p n k q z h = subst (λ (m : ℕ). any_below slot_count (child_in b m) ≡ false) q (subst (λ (x : ℕ). any_below x (child_in b n) ≡ false) z h)

  pub one_found : (p : Spot) (n k e : ℕ) → n ≡ place_number p → k < slot_count → e < entries_in (read b) (slot k) → child_at b n k e ≡ true
      → has_children (read b) p ≡ true
  unfolding has_children
  one_found p n k e q h l c =
      subst (λ (m : ℕ). any_below slot_count (child_in b m) ≡ true) q
      (any_found slot_count (child_in b n) k h (any_found (entries_in (read b) (slot k)) (child_at b n k) e l c))
