-- The texts beside the written one that are read: "accepting either letter case, any data length from 1 to 255 and CR LF".
use Rattle.std.specs.Prelude.{List, [], ◌∷◌, ◌++◌, ℕ, ◌+◌, ◌≤◌, length}
use Rattle.intel_hex.specs.Bytes.{AllBytes}
use Rattle.intel_hex.specs.HexLines.{HexLine, Spells, line_text}
use Rattle.intel_hex.specs.Marks.{data_type}
use Rattle.intel_hex.specs.Records.{record_of}

-- lines one behind the other
unfoldable pub texts_of : List HexLine → List ℕ
texts_of [] = []
texts_of (l ∷ ls) = line_text l ++ texts_of ls

-- A line for each piece, which spells its data record; the pieces lie one behind the other from the address a on. The letter case may
-- change from digit to digit, the line end from line to line, the length from piece to piece. No piece has more than 255 bytes: a pair
-- of digits spells its length.
abbrev pub Carry : List HexLine → ℕ → List (List ℕ) → Type 0
Carry [] a [] = Unit {0}
Carry [] a (p ∷ ps) = ⊥
Carry (l ∷ ls) a [] = ⊥
Carry (l ∷ ls) a (p ∷ ps) = Spells l (record_of data_type a p) × (1 ≤ length p) × Carry ls (a + length p) ps

-- pieces that have such lines
abbrev pub Pieces : List (List ℕ) → Type 0
Pieces [] = Unit {0}
Pieces (p ∷ ps) = (1 ≤ length p) × (length p ≤ 255) × AllBytes p × Pieces ps

unfoldable pub joined : List (List ℕ) → List ℕ
joined [] = []
joined (p ∷ ps) = p ++ joined ps
