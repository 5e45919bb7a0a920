-- Where a table's entries stand, which have room in its part, and where the place of a number stands.
use mathlib.Core.Bool.{Bool, false, true}
use mathlib.Core.List.{List}
use mathlib.Core.Path.{ap, refl, sym, ◌≡◌}
use Prim.Native.Nat.{◌*◌, ◌+◌, ◌-◌, ◌/◌, ◌<◌, ℕ, ◌≤◌}
use native.Mathlib.Omega.{arith}
use lib.Dec.{eqb}
use lib.ListN.{get_or, length, length-drop, length-take}
use borrow.Author.Tests.{eqb-false, eqb-true}
use Rattle.audit_entries.proofs.Bounded.{all_agree}
use Rattle.audit_entries.proofs.Entries.{part_place, slots_of}
use Rattle.state.proofs.Look.{entries_known, entries_none, object_past, tag_byte}
use Rattle.state.specs.Read.{place_of, read}
use Rattle.state.specs.State.{State, entries_in, first_of, obj_at, place_at, place_numbered}
use Rattle.words.specs.Fields.{slot}
use Rattle.words.specs.Sizes.{entry_size, memory_length, place_count, slot_count, state_length}
use Rattle.words.specs.Tests.{all_below}
use Rattle.audit_rights.specs.Names.{None, Place, Slot}

-- the entries of a table as they stand in the part that its slots are
pub entries_part : (p : Place → Bool) (b : List ℕ) → length b ≡ state_length → (t : Slot) → t.0 < slot_count
    → all_below (entries_in (read b) t) (λ e. p (place_at (read b) t e))
    ≡ all_below (entries_in (read b) t) (λ e. p (place_of (slots_of b t (entries_in (read b) t)) (entry_size * e)))
entries_part p b long t ht = all_agree (entries_in (read b) t) _ _ (λ e l. ap p (sym (part_place b long t ht e l)))

-- a note tells the entries of its table in a byte
pub entries_byte : (b : List ℕ) → ((i : ℕ) → get_or b i 0 < 256) → (t : Slot) → t.0 < slot_count → entries_in (read b) t ≤ place_count
entries_byte b small t ht = go (eqb (tag_byte b t.0) 2) refl
  where
    go : (z : Bool) → eqb (tag_byte b t.0) 2 ≡ z → entries_in (read b) t ≤ place_count
    go true q = omega (arith, entries_known b t ht (eqb-true _ _ q), small (memory_length + 1 + 4 * t.0))
    go false q = omega (arith, entries_none b t ht (eqb-false _ _ q))

-- the part of a table of n entries has each of them that is one of the 512 places
pub entry_room : (b : List ℕ) → length b ≡ state_length → (t : Slot) (n e : ℕ) → e < n → 2 * t.0 + e < place_count
    → entry_size * e + entry_size ≤ length (slots_of b t n)
entry_room b long t n e h in_it = simp (length-take, length-drop) (omega arith)

-- ---- the place of a number: there are 512
pub number_past : (b : List ℕ) (p : ℕ) → place_count ≤ p → place_numbered (read b) p ≡ None
number_past b p h = rw (object_past b (slot (p / 2)) (omega arith)) (rw (object_past b (slot (p / 2)) (omega arith)) refl)

pub number_place : (st : State) (p : ℕ) (t : Slot) (e : ℕ) → t ≡ first_of (p / 2) (obj_at st (slot (p / 2))) → e ≡ p - 2 * t.0
    → place_numbered st p ≡ place_at st t e
number_place st p t e q r = rw (r, q)
