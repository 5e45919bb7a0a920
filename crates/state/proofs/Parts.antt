-- Words, places and positions of a list from a byte on, and of a part of it: what is read in a part that was handed on is
-- what the whole list has there. And how code cuts such a part.
use mathlib.Core.Path.{◌≡◌, sym, ◌∙◌, ap}
use mathlib.Core.List.{List, []}
use Prim.Native.Nat.{ℕ, ◌+◌, ◌-◌, ◌≤◌}
use native.Mathlib.Nat.{add_assoc}
use native.Mathlib.Omega.{arith}
use lib.ListN.{length, take, drop, length-drop, drop_of_length-le}
use lib.Seq.{get_or-drop, get_or-take, take_all, take-nil}
use Rattle.state.specs.Read.{word_at, place_of, position_of}

-- ---- from byte a on
module _ (l : List ℕ) (a at : ℕ) where
  pub word_drop : word_at (drop a l) at ≡ word_at l (a + at)
  unfolding word_at
  word_drop = simp (get_or-drop, ← add_assoc)

  pub place_drop : place_of (drop a l) at ≡ place_of l (a + at)
  unfolding place_of word_at
  place_drop = simp (get_or-drop, ← add_assoc)

  pub position_drop : position_of (drop a l) at ≡ position_of l (a + at)
  unfolding position_of word_at
  position_drop = simp (get_or-drop, ← add_assoc)

-- ---- the first m bytes
module _ (l : List ℕ) (m at : ℕ) where
  pub word_take : at + 4 ≤ m → word_at (take m l) at ≡ word_at l at
  unfolding word_at
  word_take h =
      let e0 = get_or-take m l at 0 (omega arith) in
      let e1 = get_or-take m l (at + 1) 0 (omega arith) in
      let e2 = get_or-take m l (at + 2) 0 (omega arith) in
      let e3 = get_or-take m l (at + 3) 0 (omega arith) in
      rw (e0, e1, e2, e3)

module _ (l : List ℕ) (m at : ℕ) where
  pub place_take : at + 32 ≤ m → place_of (take m l) at ≡ place_of l at
  unfolding place_of
  place_take h =
      let e0 = word_take l m at (omega arith) in
      let e1 = word_take l m (at + 4) (omega arith) in
      let e2 = word_take l m (at + 8) (omega arith) in
      let e3 = word_take l m (at + 12) (omega arith) in
      let e4 = get_or-take m l (at + 16) 0 (omega arith) in
      let e5 = word_take l m (at + 20) (omega arith) in
      let e6 = word_take l m (at + 24) (omega arith) in
      let e7 = word_take l m (at + 28) (omega arith) in
      rw (e0, e1, e2, e3, e4, e5, e6, e7)

  pub position_take : at + 8 ≤ m → position_of (take m l) at ≡ position_of l at
  unfolding position_of
  position_take h =
      let e0 = get_or-take m l at 0 (omega arith) in
      let e1 = get_or-take m l (at + 1) 0 (omega arith) in
      let e2 = word_take l m (at + 4) (omega arith) in
      let e3 = get_or-take m l (at + 4) 0 (omega arith) in
      rw (e0, e1, e2, e3)

-- ---- the part of m bytes that starts at byte a
module _ (l : List ℕ) (a m at : ℕ) where
  pub word_part : at + 4 ≤ m → word_at (take m (drop a l)) at ≡ word_at l (a + at)
  word_part h = word_take (drop a l) m at h ∙ word_drop l a at

  pub place_part : at + 32 ≤ m → place_of (take m (drop a l)) at ≡ place_of l (a + at)
  place_part h = place_take (drop a l) m at h ∙ place_drop l a at

  pub position_part : at + 8 ≤ m → position_of (take m (drop a l)) at ≡ position_of l (a + at)
  position_part h = position_take (drop a l) m at h ∙ position_drop l a at

-- ---- the part as code cuts it: whole, short of the buffer's end, and past it
module _ {A : Type 0} (l : List A) (a m : ℕ) where
  pub part_whole : take (a + m - a) (drop a l) ≡ take m (drop a l)
  part_whole = let q : a + m - a ≡ m = omega arith in ap (λ (i : ℕ). take i (drop a l)) q

  pub part_short : length l ≤ a + m → take (length l - a) (drop a l) ≡ take m (drop a l)
  part_short h =
      take_all (length l - a) (drop a l) (omega (arith, length-drop a l))
      ∙ sym (take_all m (drop a l) (omega (arith, length-drop a l)))

  pub part_none : length l ≤ a → [] ≡ take m (drop a l)
  part_none h = sym (ap (take m) (drop_of_length-le l h) ∙ take-nil m)
