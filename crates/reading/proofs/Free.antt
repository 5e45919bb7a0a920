-- The slots from a slot on that are free, as a loop passes them: past the last slot nothing stands.
use mathlib.Core.Path.{◌≡◌, refl, ap}
use mathlib.Core.Bool.{Bool, true, false}
use mathlib.Core.List.{List}
use Prim.Native.Nat.{ℕ, ◌+◌, ◌-◌, ◌<◌, ◌≤◌, min}
use native.Mathlib.Omega.{arith}
use lib.Dec.{leb}
use borrow.Author.Tests.{leb-true, leb-false}
use Rattle.words.specs.Sizes.{slot_count}
use Rattle.words.specs.Tests.{all_below}
use Rattle.words.specs.Fields.{slot}
use Rattle.words.proofs.Tests.{all_at, all_of}
use Rattle.state.specs.State.{obj_at, is_free}
use Rattle.state.specs.Read.{read}
use Rattle.state.proofs.Look.{object_past}
use Rattle.reading.specs.Names.{Slot}

-- the slot i after slot k is free
abbrev pub free_after : List ℕ → Slot → ℕ → Bool
free_after b k i = is_free (obj_at (read b) (slot (k.0 + i)))

-- where the slots before i are free, and none of the n is left from i on
module _ (b : List ℕ) (k : Slot) (n i : ℕ) (so_far : all_below i (free_after b k) ≡ true) (end : min n (slot_count - k.0) ≤ i) where
  pub free_all : all_below n (free_after b k) ≡ true
  free_all = all_of n (free_after b k) (λ j h. pick j h (leb i j) refl)
    where
      pick : (j : ℕ) → j < n → (z : Bool) → leb i j ≡ z → free_after b k j ≡ true
      pick j h true e = let m : i ≤ j = leb-true i j e in
          let q : slot_count ≤ k.0 + j = omega arith in
          ap is_free (object_past b (slot (k.0 + j)) q)
      pick j h false e = all_at i (free_after b k) so_far j (leb-false i j e)
