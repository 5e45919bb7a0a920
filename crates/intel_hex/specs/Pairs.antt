-- Bytes as two hexadecimal digits each.
use Rattle.std.specs.Prelude.{Bool, List, [], ◌∷◌, ℕ, ◌+◌, ◌*◌, ◌/◌, ◌%◌}
use Rattle.digits.specs.Digits.{all_digits, digit_for, digit_of}

-- "accepting either letter case"
abbrev pub all_hex : List ℕ → Bool
all_hex cs = all_digits 16 cs

-- the bytes that pairs of digits spell; a digit that is left over spells none
unfoldable pub pairs : List ℕ → List ℕ
pairs [] = []
pairs (a ∷ []) = []
pairs (a ∷ b ∷ bs) = (16 * digit_of a + digit_of b) ∷ pairs bs

-- "upper-case digits" where `capital`
unfoldable pub spelled : Bool → List ℕ → List ℕ
spelled capital [] = []
spelled capital (b ∷ bs) = digit_for capital (b / 16) ∷ digit_for capital (b % 16) ∷ spelled capital bs
