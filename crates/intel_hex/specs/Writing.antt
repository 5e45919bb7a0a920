-- A state as text: the address record, data records of 16 bytes in rising order, the end record.
use Rattle.std.specs.Prelude.{Bool, true, false, List, [], ◌∷◌, ◌++◌, ℕ, zero, suc, ◌+◌, length, take, drop}
use Rattle.intel_hex.specs.HexLines.{line_text}
use Rattle.intel_hex.specs.Marks.{data_type, end_type, piece_count, piece_length, upper_type}
use Rattle.intel_hex.specs.Pairs.{spelled}
use Rattle.intel_hex.specs.Records.{record_of}

-- a line, in either letter case and with either line end
unfoldable pub line_of : Bool → Bool → List ℕ → List ℕ
line_of capital returned r = line_text (record { digits = spelled capital r; returned = returned })

-- pieces one behind the other, from an address on
unfoldable pub data_lines : Bool → Bool → ℕ → List (List ℕ) → List ℕ
data_lines capital returned a [] = []
data_lines capital returned a (p ∷ ps) = line_of capital returned (record_of data_type a p) ++ data_lines capital returned (a + length p) ps

-- "an extended linear address record (type 04) for 0x2000": its data is that half
abbrev pub upper_record : List ℕ
upper_record = record_of upper_type 0 (0x20 ∷ 0x00 ∷ [])

abbrev pub end_record : List ℕ
end_record = record_of end_type 0 []

abbrev pub text_of : Bool → Bool → List (List ℕ) → List ℕ
text_of capital returned ps = line_of capital returned upper_record ++ (data_lines capital returned 0 ps ++ line_of capital returned end_record)

-- n pieces of 16 bytes
unfoldable pub sixteens : ℕ → List ℕ → List (List ℕ)
sixteens zero b = []
sixteens (suc n) b = take piece_length b ∷ sixteens n (drop piece_length b)

-- "data records of 16 bytes in rising order", "upper-case digits, line feed ends"
unfoldable pub written : List ℕ → List ℕ
written b = text_of true false (sixteens piece_count b)
