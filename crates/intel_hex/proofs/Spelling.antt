-- Bytes that are spelled are read back, in either letter case.
use mathlib.Core.Bool.{Bool, true, false}
use mathlib.Core.List.{List, [], ◌∷◌}
use mathlib.Core.Path.{◌≡◌, refl}
use Prim.Native.Nat.{ℕ, ◌+◌, ◌*◌, ◌/◌, ◌%◌, ◌<◌}
use native.Mathlib.Omega.{arith}
use lib.Dec.{eqb}
use lib.ListN.{length}
use borrow.Author.Tests.{eqb-true, lt-ltb}
use Rattle.words.proofs.Tests.{all_at}
use Rattle.words.specs.Tests.{◌&◌, all_below}
use Rattle.digits.specs.Digits.{all_digits, digit_for, digit_of, within}
use Rattle.intel_hex.specs.Bytes.{AllBytes}
use Rattle.intel_hex.specs.HexLines.{Spells}
use Rattle.intel_hex.specs.Pairs.{all_hex, pairs, spelled}

digits_read : (c : Bool) → all_below 16 (λ n. eqb (digit_of (digit_for c n)) n) ≡ true
unfolding all_below digit_of digit_for within ◌&◌
digits_read true = refl
digits_read false = refl

pub value_digit : (c : Bool) (n : ℕ) → n < 16 → digit_of (digit_for c n) ≡ n
value_digit c n h = eqb-true _ _ (all_at 16 (λ n. eqb (digit_of (digit_for c n)) n) (digits_read c) n h)

pub hex_spelled : (c : Bool) (bs : List ℕ) → AllBytes bs → all_hex (spelled c bs) ≡ true
unfolding all_digits spelled ◌&◌
hex_spelled c [] h = refl
hex_spelled c (b ∷ bs) h =
    let l : b < 256 = h.0 in
    rw (value_digit c (b / 16) (omega arith), lt-ltb (b / 16) 16 (omega arith), value_digit c (b % 16) (omega arith), lt-ltb (b % 16) 16 (omega arith)) (hex_spelled c bs h.1)

pub pairs_spelled : (c : Bool) (bs : List ℕ) → AllBytes bs → pairs (spelled c bs) ≡ bs
unfolding pairs spelled
pairs_spelled c [] h = refl
pairs_spelled c (b ∷ bs) h =
    let l : b < 256 = h.0 in
    let e : 16 * (b / 16) + b % 16 ≡ b = omega arith in
    rw (value_digit c (b / 16) (omega arith), value_digit c (b % 16) (omega arith), e, pairs_spelled c bs h.1)

pub length_spelled : (c : Bool) (bs : List ℕ) → length (spelled c bs) ≡ 2 * length bs
unfolding spelled
length_spelled c [] = refl
length_spelled c (b ∷ bs) = omega (arith, length_spelled c bs)

-- a line in one letter case and with one line end spells its record
pub line_spells : (c r : Bool) (bs : List ℕ) → AllBytes bs → Spells (record { digits = spelled c bs; returned = r }) bs
line_spells c r bs h = (hex_spelled c bs h, omega (arith, length_spelled c bs), pairs_spelled c bs h)
