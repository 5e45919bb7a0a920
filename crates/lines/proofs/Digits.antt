-- Reading digits as the loop does: one character more, the end, and why a value above 4294967295 may be cut to one that stands for all.
use mathlib.Core.List.{List, [], ◌∷◌}
use mathlib.Core.Path.{◌≡◌, sym, ◌∙◌}
use Rattle.std.specs.Prelude.{Err}
use Prim.Native.Nat.{ℕ, ◌+◌, ◌*◌, ◌<◌, ◌≤◌, min}
use native.Mathlib.Decide.{dec_le}
use native.Mathlib.Nat.{min-eq_left, min-eq_right, mul-le-mul_left}
use native.Mathlib.Numerals.{add-one}
use native.Mathlib.Omega.{arith}
use lib.ListN.{drop, drop_of_length-le, get_or, length}
use lib.Seq.{drop-cons}
use borrow.Author.Tests.{lt-leb, lt-ltb, le-ltb}
use Rattle.words.specs.Tests.{◌&◌}
use Rattle.digits.specs.Digits.{all_digits, digit_of}
use Rattle.lines.specs.Names.{NotANumber, TooLarge}
use Rattle.lines.specs.Numbers.{digits_of, number_in, sized, value_from}

-- ---- digits never make a value smaller
grows : (base v : ℕ) (bs : List ℕ) → 1 ≤ base → v ≤ value_from base v bs
unfolding value_from
grows base v [] h = omega arith
grows base v (b ∷ bs) h = omega (arith, grows base (v * base + digit_of b) bs h, mul-le-mul_left v h)

large : (base v : ℕ) (bs : List ℕ) → 1 ≤ base → 4294967296 ≤ v → sized (value_from base v bs) ≡ Err TooLarge
large base v bs h l = rw (lt-leb (value_from base v bs) 4294967295 (omega (arith, grows base v bs h)))

cut : (base v : ℕ) (bs : List ℕ) → 1 ≤ base → sized (value_from base (min v 4294967296) bs) ≡ sized (value_from base v bs)
cut base v bs h = go (dec_le v 4294967296)
  where
    go : Dec (v ≤ 4294967296) → sized (value_from base (min v 4294967296) bs) ≡ sized (value_from base v bs)
    go (yes l) = rw (min-eq_left l)
    go (no l) = let m : 4294967296 ≤ v = omega arith in
        rw (min-eq_right m) (large base 4294967296 bs h (omega arith) ∙ sym (large base v bs h m))

-- ---- one character more, and the end
module _ (base v : ℕ) (t : List ℕ) (i : ℕ) where
  pub digits_more : 1 ≤ base → i < length t → digit_of (get_or t i 0) < base
      → digits_of base v (drop i t) ≡ digits_of base (min (v * base + digit_of (get_or t i 0)) 4294967296) (drop (i + 1) t)
  unfolding digits_of all_digits value_from ◌&◌
  digits_more h l d = rw (drop-cons t i 0 l, lt-ltb _ _ d, cut base _ _ h, add-one i)

  pub digits_bad : i < length t → base ≤ digit_of (get_or t i 0) → digits_of base v (drop i t) ≡ Err NotANumber
  unfolding digits_of all_digits ◌&◌
  digits_bad l d = rw (drop-cons t i 0 l, le-ltb _ _ d)

  pub digits_end : length t ≤ i → digits_of base v (drop i t) ≡ sized v
  unfolding digits_of all_digits value_from
  digits_end l = rw (drop_of_length-le t l)

-- ---- one digit or more
pub some_digits : (base : ℕ) (t : List ℕ) (i : ℕ) → i < length t → number_in base (drop i t) ≡ digits_of base 0 (drop i t)
unfolding number_in
some_digits base t i l = rw (drop-cons t i 0 l)

pub no_digits : (base : ℕ) (t : List ℕ) (i : ℕ) → length t ≤ i → number_in base (drop i t) ≡ Err NotANumber
unfolding number_in
no_digits base t i l = rw (drop_of_length-le t l)
