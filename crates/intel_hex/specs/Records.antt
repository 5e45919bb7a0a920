-- A record's bytes: length, address (two), type, data, and the byte that brings the sum to a multiple of 256.
use Rattle.std.specs.Prelude.{Bool, false, List, [], ◌∷◌, ◌++◌, ℕ, ◌+◌, ◌-◌, ◌*◌, ◌/◌, ◌%◌, eqb, leb, get_or, length, take, drop}
use Rattle.words.specs.Tests.{◌&◌, choose}
use Rattle.intel_hex.specs.Marks.{data_at, data_type, end_type, frame_length, upper_type}

unfoldable pub sum_of : List ℕ → ℕ
sum_of [] = 0
sum_of (b ∷ bs) = b + sum_of bs

abbrev pub sum_byte : List ℕ → ℕ
sum_byte bs = (256 - sum_of bs % 256) % 256

abbrev pub fields : ℕ → ℕ → List ℕ → List ℕ
fields t a bs = length bs ∷ a / 256 ∷ a % 256 ∷ t ∷ bs

-- the record of type t at the address a
unfoldable pub record_of : ℕ → ℕ → List ℕ → List ℕ
record_of t a bs = fields t a bs ++ (sum_byte (fields t a bs) ∷ [])

-- ---- the parts of a record's bytes
abbrev pub length_in : List ℕ → ℕ
length_in r = get_or r 0 0

abbrev pub address_in : List ℕ → ℕ
address_in r = 256 * get_or r 1 0 + get_or r 2 0

-- of an address record
abbrev pub upper_in : List ℕ → ℕ
upper_in r = 256 * get_or r 4 0 + get_or r 5 0

abbrev pub type_in : List ℕ → ℕ
type_in r = get_or r 3 0

unfoldable pub data_in : List ℕ → List ℕ
data_in r = take (length_in r) (drop data_at r)

-- "length or type other than 00, 01, 04": a data record has 1 to 255 bytes, an end record none, an address record two. A length is a byte.
unfoldable pub length_fits : ℕ → ℕ → Bool
length_fits t n =
    choose (eqb t data_type) (leb 1 n)
    (choose (eqb t end_type) (eqb n 0)
    (choose (eqb t upper_type) (eqb n 2) false))

-- the record has as many bytes as its length says, and its type takes them
unfoldable pub whole : List ℕ → Bool
whole r = eqb (length r) (length_in r + frame_length) & length_fits (type_in r) (length_in r)
