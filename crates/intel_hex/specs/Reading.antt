-- What a text gives: the bytes of a state, or the fault of its first faulty line.
use Rattle.std.specs.Prelude.{Bool, true, List, [], ◌∷◌, ℕ, suc, ◌+◌, ◌-◌, ◌*◌, ◌%◌, eqb, leb, length, take, drop, replicate}
use Rattle.words.specs.Sizes.{kernel_start, state_length}
use Rattle.words.specs.Tests.{◌&◌, choose}
use Rattle.state.specs.State.{splice}
use Rattle.intel_hex.specs.Marks.{data_type, half, upper_type}
use Rattle.intel_hex.specs.Names.{Fault, Address, End, Line, Sum}
use Rattle.intel_hex.specs.Records.{sum_of, address_in, upper_in, type_in, data_in}
use Rattle.intel_hex.specs.Lines.{lines_of, body_of, readable, spelled_by}

-- a cell for each byte of the state: 0 where it has not been given, else the byte + 1; and the upper half of the address
pub record Given : Type 0 where
  pub cells : List ℕ
  pub upper : ℕ

-- what a line does: reading goes on, it is over with the bytes given, or the line is faulty
pub data Step : Type 0 where
  on : Given → Step
  over : List ℕ → Step
  bad : Fault → Step

-- none of these cells is given
unfoldable pub vacant : List ℕ → Bool
vacant [] = true
vacant (c ∷ cs) = eqb c 0 & vacant cs

-- each of them is
unfoldable pub full : List ℕ → Bool
full [] = true
full (c ∷ cs) = leb 1 c & full cs

-- the cells that bytes fill, and the bytes that were given
unfoldable pub filled : List ℕ → List ℕ
filled [] = []
filled (b ∷ bs) = suc b ∷ filled bs

unfoldable pub given : List ℕ → List ℕ
given [] = []
given (c ∷ cs) = (c - 1) ∷ given cs

-- "address overlap or outside": n bytes from the address a
unfoldable pub is_open : List ℕ → ℕ → ℕ → Bool
is_open cells a n = leb kernel_start a & leb (a + n) (kernel_start + length cells) & vacant (take n (drop (a - kernel_start) cells))

unfoldable pub data_step : Given → ℕ → List ℕ → Step
data_step g a bs =
    choose (is_open g.cells a (length bs))
    (on (record { cells = splice (a - kernel_start) (filled bs) g.cells; upper = g.upper }))
    (bad Address)

-- "a gap, judged at the end record"
unfoldable pub end_step : List ℕ → Step
end_step cells = choose (full cells) (over (given cells)) (bad Address)

unfoldable pub record_step : Given → List ℕ → Step
record_step g r =
    choose (eqb (type_in r) data_type) (data_step g (half * g.upper + address_in r) (data_in r))
    (choose (eqb (type_in r) upper_type) (on (record { cells = g.cells; upper = upper_in r }))
    (end_step g.cells))

-- −30, −31, −32 "within a line in that order"
unfoldable pub line_step : Given → List ℕ → Step
line_step g l =
    choose (readable l)
    (choose (eqb (sum_of (spelled_by (body_of l)) % 256) 0) (record_step g (spelled_by (body_of l))) (bad Sum))
    (bad Line)

-- the bytes that a text gives, or its fault
pub data Result : Type 0 where
  gives : List ℕ → Result
  faulty : Fault → Result

-- −33: "text after it"
unfoldable pub nothing_more : List ℕ → List (List ℕ) → Result
nothing_more b [] = gives b
nothing_more b (l ∷ ls) = faulty End

-- "the first faulty line decides"; −33: "no end record"
unfoldable pub read_lines : Given → List (List ℕ) → Result
read_lines g [] = faulty End
read_lines g (l ∷ ls) = elim (line_step g l) [ on h ↦ read_lines h ls | over b ↦ nothing_more b ls | bad f ↦ faulty f ]

-- how many lines are taken before the first faulty one; behind an end record none is
unfoldable pub lines_taken : Given → List (List ℕ) → ℕ
lines_taken g [] = 0
lines_taken g (l ∷ ls) = elim (line_step g l) [ on h ↦ suc (lines_taken h ls) | over b ↦ 1 | bad f ↦ 0 ]

-- n cells of which none is given
unfoldable pub unset : ℕ → List ℕ
unset n = replicate n 0

-- before an address record the upper half is 0
abbrev pub start : ℕ → Given
start n = record { cells = unset n; upper = 0 }

unfoldable pub read_text : List ℕ → Result
read_text t = read_lines (start state_length) (lines_of t)

-- where a text is refused, the line behind these is at fault; where the end record is missing, it would stand there
unfoldable pub taken_of : List ℕ → ℕ
taken_of t = lines_taken (start state_length) (lines_of t)
