-- "A number is decimal (18) or hexadecimal (0x20000500, either letter case after 0x), at most 4294967295."
use Rattle.std.specs.Prelude.{Bool, List, [], ◌∷◌, ℕ, ◌+◌, ◌*◌, Result, Ok, Err, eqb, leb, drop, get_or}
use Rattle.words.specs.Tests.{◌&◌, choose}
use Rattle.digits.specs.Digits.{all_digits, digit_of}
use Rattle.lines.specs.Names.{NumberFault, NotANumber, TooLarge}

-- the value of digits that follow digits of value v
unfoldable pub value_from : ℕ → ℕ → List ℕ → ℕ
value_from base v [] = v
value_from base v (b ∷ bs) = value_from base (v * base + digit_of b) bs

-- "at most 4294967295"
abbrev pub sized : ℕ → Result ℕ NumberFault
sized n = choose (leb n 4294967295) (Ok n) (Err TooLarge)

-- digits that follow digits of value v; a character that is none decides before the size does
unfoldable pub digits_of : ℕ → ℕ → List ℕ → Result ℕ NumberFault
digits_of base v bs = choose (all_digits base bs) (sized (value_from base v bs)) (Err NotANumber)

-- one digit or more, and nothing else
unfoldable pub number_in : ℕ → List ℕ → Result ℕ NumberFault
number_in base [] = Err NotANumber
number_in base (b ∷ bs) = digits_of base 0 (b ∷ bs)

-- begins with `0x`
abbrev pub hexadecimal : List ℕ → Bool
hexadecimal text = eqb (get_or text 0 0) 48 & eqb (get_or text 1 0) 120

abbrev pub number_of : List ℕ → Result ℕ NumberFault
number_of text = choose (hexadecimal text) (number_in 16 (drop 2 text)) (number_in 10 text)
