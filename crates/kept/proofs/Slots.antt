-- Places and their numbers: the place of a number is the place that has it.
use mathlib.Core.Bool.{false≢true}
use mathlib.Core.Path.{ap, refl, sym, ◌∙◌, ◌≡◌}
use Prim.Native.Nat.{◌*◌, ◌+◌, ◌-◌, ◌/◌, ◌<◌, suc, zero, ℕ, ◌≤◌}
use native.Mathlib.Decide.{dec_lt}
use native.Mathlib.Omega.{arith}
use Rattle.rules.specs.Places.{spot}
use Rattle.state.proofs.Bodies.{first_le}
use Rattle.state.proofs.Look.{place_past}
use Rattle.state.proofs.Run.{object_part}
use Rattle.state.proofs.Write.{is_table}
use Rattle.state.specs.Bytes.{tag_of}
use Rattle.state.specs.Layout.{Laid}
use Rattle.state.specs.State.{State, entries_in, first_of, obj_at, place_at, place_number, place_numbered, places_of, size_of, spot_numbered, table}
use Rattle.words.specs.Fields.{slot}
use Rattle.words.specs.Rights.{is_blank}
use Rattle.words.specs.Sizes.{slots_for}
use Rattle.kept.specs.Names.{Capability, Some, Slot, Spot}

-- a place that holds a right is one of the table
pub holds_in : (st : State) (t : Slot) (e : ℕ) (c : Capability) → place_at st t e ≡ Some c → e < entries_in st t
holds_in st t e c h = elim (dec_lt e (entries_in st t)) [
  | yes l ↦ l
  | no n ↦ absurd (false≢true (sym (ap is_blank h) ∙ ap is_blank (place_past st t e (omega arith))))
]

module _ (st : State) (w : Laid st) where
  pub number_spot : (n : ℕ) → place_number (spot_numbered st n) ≡ n
  number_spot n = let z = first_le st w (n / 2) (obj_at st (slot (n / 2))) refl in omega arith

  spot_number : (t : Slot) (e : ℕ) → e < entries_in st t → spot_numbered st (place_number (spot t e)) ≡ spot t e
  spot_number t e he = go (e / 2) refl
    where
      is : obj_at st t ≡ table (places_of (obj_at st t))
      is = is_table (obj_at st t) e he

      tag : 2 ≤ tag_of (obj_at st t)
      tag = rw is (omega arith)

      back : 2 * t.0 + e - 2 * t.0 ≡ e
      back = omega arith

      at : (k : ℕ) → (2 * t.0 + e) / 2 ≡ k → first_of k (obj_at st (slot k)) ≡ t → spot_numbered st (2 * t.0 + e) ≡ spot t e
      at k q f = rw (q, f, back)

      go : (h : ℕ) → e / 2 ≡ h → spot_numbered st (2 * t.0 + e) ≡ spot t e
      go zero z = at t.0 (omega arith) (ap (first_of t.0) is)
      go (suc j) z =
          let size : size_of (obj_at st t) ≡ slots_for (32 * entries_in st t) = ap size_of is in
          at (t.0 + suc j) (omega arith) (ap (first_of (t.0 + suc j)) (object_part st w t tag j (omega arith)))

  pub numbered : (p : Spot) → p.entry < entries_in st p.table → place_numbered st (place_number p) ≡ place_at st p.table p.entry
  numbered p he = ap (λ (q : Spot). place_at st q.table q.entry) (spot_number p.table p.entry he)
