-- Cells as the loops of the code go over them.
use mathlib.Core.Bool.{false}
use mathlib.Core.List.{List, [], ◌∷◌, ◌++◌, append-nil}
use mathlib.Core.Path.{◌≡◌, refl, ap, sym, ◌∙◌}
use Prim.Native.Nat.{ℕ, zero, suc, ◌+◌, ◌-◌, ◌*◌, ◌<◌, ◌≤◌}
use native.Mathlib.Decide.{dec_le}
use native.Mathlib.Numerals.{add-one}
use native.Mathlib.Omega.{arith}
use lib.Dec.{leb}
use lib.ListN.{get_or, length, take, drop, set, drop_of_length-le}
use lib.Seq.{append_snoc, drop-cons, length-take-le, set_at, take_all, take-suc}
use borrow.Author.Tests.{le-leb, lt-leb}
use Rattle.words.specs.Sizes.{kernel_start, state_length}
use Rattle.words.specs.Tests.{◌&◌}
use Rattle.state.specs.State.{splice}
use Rattle.intel_hex.specs.Marks.{half, state_upper}
use Rattle.intel_hex.specs.Reading.{filled, given, is_open, vacant}
use Rattle.intel_hex.proofs.Filling.{filled_append, from_start, length_filled}
use Rattle.intel_hex.proofs.Splices.{set_behind, splice_none}

-- ---- one cell more
pub place_more : (l d : List ℕ) (at i x : ℕ) → at + i < length l → i < length d → x ≡ get_or d i 0
    → set (splice at (filled (take i d)) l) (at + i) (1 + x) ≡ splice at (filled (take (i + 1) d)) l
unfolding filled
place_more l d at i x h k e =
    let n : at + length (filled (take i d)) ≡ at + i = omega (arith, length_filled (take i d), length-take-le i d (omega arith)) in
    let s : 1 + x ≡ suc (get_or d i 0) = omega arith in
    set_behind l (filled (take i d)) at (at + i) (1 + x) n h ∙ rw (s, add-one i, take-suc d i 0 k, filled_append (take i d) (get_or d i 0 ∷ []))

pub place_none : (l d : List ℕ) (at : ℕ) → l ≡ splice at (filled (take 0 d)) l
unfolding filled
place_none l d at = sym (splice_none l at)

-- ---- what was given
pub length_given : (c : List ℕ) → length (given c) ≡ length c
unfolding given
length_given [] = refl
length_given (x ∷ xs) = ap suc (length_given xs)

pub given_at : (c : List ℕ) (i : ℕ) → get_or (given c) i 0 ≡ get_or c i 0 - 1
unfolding given
given_at [] i = refl
given_at (x ∷ xs) zero = refl
given_at (x ∷ xs) (suc i) = given_at xs i

-- a front replaced, one byte more
pub front_more : (g s : List ℕ) (i x : ℕ) → i < length g → i < length s → x ≡ get_or g i 0 → set (take i g ++ drop i s) i x ≡ take (i + 1) g ++ drop (i + 1) s
front_more g s i x h k e =
    rw (
      e,
      drop-cons s i 0 k,
      set_at (take i g) (get_or s i 0) (drop (suc i) s) (get_or g i 0) i (length-take-le i g (omega arith)),
      add-one i,
      take-suc g i 0 h,
      append_snoc (take i g) (get_or g i 0) (drop (suc i) s),
    )

pub front_done : (g s : List ℕ) (i : ℕ) → length g ≤ i → length s ≤ i → take i g ++ drop i s ≡ g
front_done g s i h k = rw (take_all i g h, drop_of_length-le s k, append-nil g)

-- ---- where the bytes of a record may go
module _ (c : List ℕ) (l : length c ≡ state_length) where
  pub other_half : (u a n : ℕ) → a < half → (u ≡ state_upper → ⊥) → is_open c (half * u + a) n ≡ false
  unfolding is_open ◌&◌
  other_half u a n h e = go (dec_le u state_upper)
    where
      go : Dec (u ≤ state_upper) → (leb kernel_start (half * u + a) & leb (half * u + a + n) (kernel_start + length c) & vacant (take n (drop (half * u + a - kernel_start) c))) ≡ false
      go (yes k) = rw (lt-leb kernel_start (half * u + a) (omega arith))
      go (no k) = rw (le-leb kernel_start (half * u + a) (omega arith), lt-leb (half * u + a + n) (kernel_start + length c) (omega arith))

  pub beyond : (a n : ℕ) → state_length < a + n → is_open c (half * state_upper + a) n ≡ false
  unfolding is_open ◌&◌
  beyond a n h = rw (le-leb kernel_start (half * state_upper + a) (omega arith), lt-leb (half * state_upper + a + n) (kernel_start + length c) (omega arith))

  pub inside : (a n : ℕ) → a + n ≤ state_length → is_open c (half * state_upper + a) n ≡ vacant (take n (drop a c))
  unfolding is_open ◌&◌
  inside a n h = rw (le-leb kernel_start (half * state_upper + a) (omega arith), le-leb (half * state_upper + a + n) (kernel_start + length c) (omega arith), from_start a)
