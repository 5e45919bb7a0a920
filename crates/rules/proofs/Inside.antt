-- What stands lies within the 256 slots, and holds places within the 512: past them a laid-out state has nothing.
use mathlib.Core.Path.{ap, refl, ◌≡◌}
use Prim.Native.Nat.{◌/◌, ◌<◌, suc, ℕ, ◌≤◌}
use native.Mathlib.Omega.{arith}
use lib.ListN.{get_or-eq_default}
use Rattle.state.proofs.Write.{is_table, slot_in}
use Rattle.state.specs.Layout.{Laid}
use Rattle.state.specs.State.{State, entries_in, free, obj_at, place_numbered}
use Rattle.words.specs.Fields.{slot}
use Rattle.words.specs.Sizes.{place_count, slot_count}
use Rattle.rules.specs.Formed.{Formed}
use Rattle.rules.specs.Names.{None, Slot}
use Rattle.rules.specs.WellFormed.{object_no}

abbrev pub laid_out : {st : State} → Formed st → Laid st
laid_out w = record { room = w.room; laid = w.laid }

module _ (st : State) (w : Laid st) where
  pub free_past : (k : ℕ) → slot_count ≤ k → obj_at st (slot k) ≡ free
  free_past k h = get_or-eq_default st.slots free (omega (arith, w.room))

  pub blank_past : (x : ℕ) → place_count ≤ x → place_numbered st x ≡ None
  blank_past x h = let none = free_past (x / 2) (omega arith) in rw none (rw none refl)

  -- so what is named by a number other than 0 stands in one of the slots
  pub stands_inside : (o : Slot) (n : ℕ) → object_no (obj_at st o) ≡ suc n → o.0 < slot_count
  stands_inside o n h = omega (arith, w.room, slot_in st o (λ e. let z : object_no (obj_at st o) ≡ 0 = ap object_no e in omega arith))

  pub entries_in_lem : (t : Slot) (e : ℕ) → e < entries_in st t → t.0 < slot_count
  entries_in_lem t e h = stands_inside t 0 (ap object_no (is_table (obj_at st t) e h))
