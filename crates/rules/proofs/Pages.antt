-- What a well-formed directory tells of its positions, and the frame of a page in a larger page.
use mathlib.Core.Bool.{true}
use mathlib.Core.Path.{◌∙◌, ◌≡◌, ap, subst, sym}
use Prim.Native.Nat.{◌%◌, ◌*◌, ◌+◌, ◌-◌, ◌/◌, ◌<◌, ◌^◌, ℕ, ◌≤◌}
use native.Mathlib.Nat.{add-mul, add-zero, mul_assoc}
use native.Mathlib.Omega.{arith}
use lib.Arith.{digits_lt}
use lib.Dec.{ltb}
use lib.ListN.{length}
use lib.Pow.{low, pow-add, pow_pos, shl_lt, shr_lt, split}
use borrow.Author.Tests.{eqb-true}
use Rattle.state.proofs.Write.{is_directory}
use Rattle.state.specs.State.{State, directory, obj_at, position_at, positions_in, positions_of, shape_at}
use Rattle.words.proofs.Tests.{all_at, and_left, and_right}
use Rattle.rules.specs.Formed.{Formed}
use Rattle.rules.specs.Names.{Slot}
use Rattle.rules.specs.WellFormed.{geometric, object_no, object_ok, position_ok, still}
use Rattle.rules.proofs.Inside.{laid_out, stands_inside}

-- ---- a directory that has a position
module _ (st : State) (w : Formed (still st)) where
  pub record Shaped (d : Slot) : Type 0 where
    pub geometry : geometric (shape_at st d) ≡ true
    pub start : ltb (shape_at st d).start (2 ^ 32) ≡ true
    pub count : length (positions_of (obj_at st d)) ≡ 2 ^ (shape_at st d).number
    pub each : (i : ℕ) → i < positions_in st d → position_ok (still st) (shape_at st d) (position_at st d i) ≡ true

  pub shaped : (d : Slot) (i : ℕ) → i < positions_in st d → Shaped d
  unfolding object_ok
  shaped d i h =
      let is = is_directory (obj_at st d) i h in
      let number : object_no (obj_at st d) ≡ 2 = ap object_no is in
      let k : object_ok (still st) d (directory (shape_at st d) (positions_of (obj_at st d))) ≡ true = sym (ap (object_ok (still st) d) is) ∙ w.objects d.0 (stands_inside (still st) (laid_out w) d 1 number) in
      let k₁ = and_right _ _ k in
      let k₂ = and_right _ _ k₁ in
      record { geometry = and_left _ _ k; start = and_left _ _ k₁; count = eqb-true _ _ (and_left _ _ k₂); each = all_at _ _ (and_right _ _ k₂) }

-- ---- "Frame = source frame + index·2^(target order)": the i-th page of order k in a page of order j + k whose frame is f
module _ (f i k j : ℕ) (whole : f % 2 ^ (j + k) ≡ 0) (hi : i < 2 ^ j) where
  f_is : f ≡ f / 2 ^ (j + k) * 2 ^ (j + k)
  f_is = let z = split f (j + k) in omega arith

  -- "a page's frame is a multiple of its size"
  pub frame_multiple : (f + i * 2 ^ k) % 2 ^ k ≡ 0
  frame_multiple =
      let q : ℕ = f / 2 ^ (j + k) in
      let a : f ≡ q * 2 ^ j * 2 ^ k = f_is ∙ ap (λ (x : ℕ). q * x) (pow-add 2 j k) ∙ sym (mul_assoc q (2 ^ j) (2 ^ k)) in
      let b : f + i * 2 ^ k ≡ (q * 2 ^ j + i) * 2 ^ k + 0 = ap (λ (x : ℕ). x + i * 2 ^ k) a ∙ sym (add-mul (q * 2 ^ j) i (2 ^ k)) ∙ sym (add-zero ((q * 2 ^ j + i) * 2 ^ k)) in
      ap (λ (x : ℕ). x % 2 ^ k) b ∙ low (q * 2 ^ j + i) k (pow_pos k)

  -- and it is a word where the larger page's is
  pub frame_small : f < 2 ^ 32 → j + k ≤ 32 → f + i * 2 ^ k < 2 ^ 32
  frame_small l n =
      let e : 32 - (j + k) + (j + k) ≡ 32 = omega arith in
      let q : f / 2 ^ (j + k) < 2 ^ (32 - (j + k)) = shr_lt (32 - (j + k)) (j + k) (rw e l) in
      let d : f / 2 ^ (j + k) * 2 ^ (j + k) + i * 2 ^ k < 2 ^ (32 - (j + k)) * 2 ^ (j + k) = digits_lt q (shl_lt j k hi) in
      subst (λ (x : ℕ). f + i * 2 ^ k < 2 ^ x) e (rw (pow-add 2 (32 - (j + k)) (j + k)) (subst (λ (x : ℕ). x + i * 2 ^ k < 2 ^ (32 - (j + k)) * 2 ^ (j + k)) (sym f_is) d))
