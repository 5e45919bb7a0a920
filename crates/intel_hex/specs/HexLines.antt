-- A line as it stands in a text, whoever wrote it: digits between the colon and the line's end.
use Rattle.std.specs.Prelude.{Bool, true, false, List, [], ◌∷◌, ◌++◌, ◌≡◌, ℕ, ◌%◌, length}
use Rattle.intel_hex.specs.Marks.{carriage_return, colon, line_feed}
use Rattle.intel_hex.specs.Pairs.{all_hex, pairs}

-- `returned`: CR LF ends it, else LF
pub record HexLine : Type 0 where
  pub digits : List ℕ
  pub returned : Bool

abbrev pub end_of : Bool → List ℕ
end_of true = carriage_return ∷ line_feed ∷ []
end_of false = line_feed ∷ []

abbrev pub line_text : HexLine → List ℕ
line_text l = colon ∷ (l.digits ++ end_of l.returned)

-- the digits, each in either letter case, spell the record r
abbrev pub Spells : HexLine → List ℕ → Type 0
Spells l r = (all_hex l.digits ≡ true) × (length l.digits % 2 ≡ 0) × (pairs l.digits ≡ r)
