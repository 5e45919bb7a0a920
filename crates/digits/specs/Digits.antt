-- Characters as hexadecimal digits, and the character that is written for a value.
use Rattle.std.specs.Prelude.{Bool, true, List, [], ◌∷◌, ℕ, ◌+◌, ◌-◌, leb, ltb}
use Rattle.words.specs.Tests.{◌&◌, choose}

unfoldable pub within : ℕ → ℕ → ℕ → Bool
within low high b = leb low b & leb b high

-- `0` to `9`, `A` to `F`, `a` to `f`; any other character counts 16, which is a digit in no base up to 16
unfoldable pub digit_of : ℕ → ℕ
digit_of b =
    choose (within 48 57 b) (b - 48)
    (choose (within 65 70 b) (b - 65 + 10)
    (choose (within 97 102 b) (b - 97 + 10) 16))

unfoldable pub all_digits : ℕ → List ℕ → Bool
all_digits base [] = true
all_digits base (b ∷ bs) = ltb (digit_of b) base & all_digits base bs

-- the digit for n, below 16: "upper-case digits" where `capital`
unfoldable pub digit_for : Bool → ℕ → ℕ
digit_for capital n = choose (ltb n 10) (48 + n) (choose capital (55 + n) (87 + n))
