-- Worked texts on a memory of four bytes from 0x20000000 on: what each gives, and how many of its lines are taken. The proof is `worked`
-- in proofs/Answers.antt.
use Rattle.std.specs.Prelude.{true, false, List, [], ◌∷◌, ◌++◌, ℕ, ◌+◌, ◌%◌, ℤ, replicate}
use Rattle.words.specs.Refusals.{number}
use Rattle.digits.specs.Digits.{digit_for}
use Rattle.intel_hex.specs.HexLines.{line_text}
use Rattle.intel_hex.specs.Lines.{lines_of}
use Rattle.intel_hex.specs.Marks.{carriage_return, colon, data_type, end_type, line_feed, upper_type}
use Rattle.intel_hex.specs.Names.{Address, BadState, End, Line, Sum}
use Rattle.intel_hex.specs.Outcomes.{read_outcome, write_outcome}
use Rattle.intel_hex.specs.Pairs.{spelled}
use Rattle.intel_hex.specs.Reading.{Result, faulty, gives, lines_taken, read_lines, start}
use Rattle.intel_hex.specs.Records.{fields, record_of, sum_byte}
use Rattle.intel_hex.specs.Writing.{end_record, line_of, text_of, upper_record}

pub record Answer : Type 0 where
  pub result : Result
  pub taken : ℕ

pub record Case : Type 0 where
  pub text : List ℕ
  pub answer : Answer

abbrev case : List ℕ → Result → ℕ → Case
case t r n = record { text = t; answer = record { result = r; taken = n } }

-- ---- lines as the writer has them
abbrev line : List ℕ → List ℕ
line r = line_of true false r

abbrev up : List ℕ
up = line upper_record

abbrev end : List ℕ
end = line end_record

abbrev upper : ℕ → ℕ → List ℕ
upper high low = line (record_of upper_type 0 (high ∷ low ∷ []))

abbrev put : ℕ → List ℕ → List ℕ
put a bs = line (record_of data_type a bs)

abbrev four : List ℕ
four = 1 ∷ 2 ∷ 171 ∷ 4 ∷ []

-- ---- lines that differ
-- 171 as `aB`, its record else in capitals, CR LF behind
abbrev mixed : List ℕ
mixed =
    line_text (record {
      digits = spelled true (4 ∷ 0 ∷ 0 ∷ 0 ∷ 1 ∷ 2 ∷ []) ++ (digit_for false 10 ∷ digit_for true 11 ∷ spelled true (4 ∷ 74 ∷ []));
      returned = true;
    })

-- a record of type t whose sum is off by one
abbrev off : ℕ → ℕ → List ℕ → List ℕ
off t a bs = line (fields t a bs ++ ((sum_byte (fields t a bs) + 1) % 256 ∷ []))

-- the end record with c for the first digit of its sum, `F` (70)
abbrev digit : ℕ → List ℕ
digit c = colon ∷ (spelled true (0 ∷ 0 ∷ 0 ∷ 1 ∷ []) ++ (c ∷ 70 ∷ line_feed ∷ []))

abbrev pub cases : List Case
cases =
    case (up ++ put 0 four ++ end) (gives four) 3
    -- "accepting either letter case, any data length from 1 to 255 and CR LF"
    ∷ case (text_of false true ((1 ∷ []) ∷ (2 ∷ 171 ∷ 4 ∷ []) ∷ [])) (gives four) 4
    ∷ case (up ++ mixed ++ line_of false true end_record) (gives four) 3
    ∷ case (up ++ put 0 (replicate 255 0) ++ end) (faulty Address) 1
    -- data records in another order, address records between them or for elsewhere
    ∷ case (up ++ put 1 (2 ∷ 171 ∷ 4 ∷ []) ++ put 0 (1 ∷ []) ++ end) (gives four) 4
    ∷ case (upper 18 52 ++ up ++ put 0 (1 ∷ 2 ∷ []) ++ upper 0 0 ++ up ++ put 2 (171 ∷ 4 ∷ []) ++ end) (gives four) 7
    -- the address in an address record or an end record is not read
    ∷ case (line (record_of upper_type 9 (32 ∷ 0 ∷ [])) ++ put 0 four ++ line (record_of end_type 9 [])) (gives four) 3
    -- −30 "character": no colon first, and next to the digits on either side
    ∷ case (up ++ 32 ∷ put 0 four ++ end) (faulty Line) 1
    ∷ case (digit 47) (faulty Line) 0
    ∷ case (digit 58) (faulty Line) 0
    ∷ case (digit 64) (faulty Line) 0
    ∷ case (digit 71) (faulty Line) 0
    ∷ case (digit 96) (faulty Line) 0
    ∷ case (digit 103) (faulty Line) 0
    ∷ case (digit 70) (faulty Address) 0
    ∷ case (digit 102) (faulty Address) 0
    -- −30 "line end": none behind the last line, a lone carriage return, two of them, a blank line
    ∷ case (up ++ put 0 four ++ colon ∷ spelled true end_record) (faulty Line) 2
    ∷ case (up ++ put 0 four ++ colon ∷ (spelled true end_record ++ (carriage_return ∷ []))) (faulty Line) 2
    ∷ case (up ++ carriage_return ∷ put 0 four ++ end) (faulty Line) 1
    ∷ case (colon ∷ (spelled true upper_record ++ (carriage_return ∷ carriage_return ∷ line_feed ∷ [])) ++ put 0 four ++ end) (faulty Line) 0
    ∷ case (up ++ line_feed ∷ put 0 four ++ end) (faulty Line) 1
    -- −30 "length": digits not in pairs, fewer bytes than a record has, one fewer and one more than the length says, one that the type has not
    ∷ case (colon ∷ (spelled true end_record ++ (48 ∷ line_feed ∷ []))) (faulty Line) 0
    ∷ case (line (0 ∷ 0 ∷ 0 ∷ 1 ∷ [])) (faulty Line) 0
    ∷ case (line (fields data_type 0 four)) (faulty Line) 0
    ∷ case (line (record_of data_type 0 four ++ (0 ∷ []))) (faulty Line) 0
    ∷ case (put 0 []) (faulty Line) 0
    ∷ case (line (record_of end_type 0 (0 ∷ []))) (faulty Line) 0
    ∷ case (line (record_of upper_type 0 (32 ∷ []))) (faulty Line) 0
    ∷ case (line (record_of upper_type 0 (32 ∷ 0 ∷ 0 ∷ []))) (faulty Line) 0
    -- −30 "type other than 00, 01, 04"
    ∷ case (line (record_of 2 0 (32 ∷ 0 ∷ []))) (faulty Line) 0
    ∷ case (line (record_of 3 0 (0 ∷ 0 ∷ 0 ∷ 0 ∷ []))) (faulty Line) 0
    ∷ case (line (record_of 5 0 (32 ∷ 0 ∷ 0 ∷ 0 ∷ []))) (faulty Line) 0
    -- −31 "record sum", behind −30 and before −32
    ∷ case (up ++ off data_type 0 four) (faulty Sum) 1
    ∷ case (off end_type 0 []) (faulty Sum) 0
    ∷ case (off 3 0 four) (faulty Line) 0
    ∷ case (line (fields data_type 0 four ++ (0 ∷ 0 ∷ []))) (faulty Line) 0
    ∷ case (up ++ off data_type 9 four) (faulty Sum) 1
    -- −32 "address overlap or outside": past the last byte, before the first, in another half, before any address record; given twice
    ∷ case (up ++ put 1 four ++ end) (faulty Address) 1
    ∷ case (upper 31 255 ++ put 65535 (1 ∷ []) ++ end) (faulty Address) 1
    ∷ case (upper 32 1 ++ put 0 four ++ end) (faulty Address) 1
    ∷ case (put 0 four ++ end) (faulty Address) 0
    ∷ case (up ++ put 0 four ++ put 3 (4 ∷ []) ++ end) (faulty Address) 2
    -- −32 "and a gap, judged at the end record", with text behind it too
    ∷ case (up ++ put 0 (1 ∷ 2 ∷ 171 ∷ []) ++ end) (faulty Address) 2
    ∷ case (up ++ put 1 (2 ∷ 171 ∷ 4 ∷ []) ++ end ++ end) (faulty Address) 2
    -- −33 "no end record or text after it", whatever it is
    ∷ case [] (faulty End) 0
    ∷ case (up ++ put 0 four) (faulty End) 2
    ∷ case (up ++ put 0 four ++ end ++ end) (faulty End) 3
    ∷ case (up ++ put 0 four ++ end ++ line_feed ∷ []) (faulty End) 3
    ∷ case (up ++ put 0 four ++ end ++ 32 ∷ []) (faulty End) 3
    -- "the first faulty line decides"
    ∷ case (up ++ put 9 four ++ off data_type 0 four ++ end) (faulty Address) 1
    ∷ case (up ++ off data_type 0 four ++ 32 ∷ put 9 four) (faulty Sum) 1
    ∷ []

-- ---- lines letter by letter, since the texts above are made by the writer's own definitions
-- `:020000042000DA`, which each written text begins with
abbrev pub first_line : List ℕ
first_line = 58 ∷ 48 ∷ 50 ∷ 48 ∷ 48 ∷ 48 ∷ 48 ∷ 48 ∷ 52 ∷ 50 ∷ 48 ∷ 48 ∷ 48 ∷ 68 ∷ 65 ∷ 10 ∷ []

abbrev pub made : List (List ℕ)
made = up ∷ put 0x4430 (0xAB ∷ []) ∷ end ∷ []

-- `:020000042000DA`, `:01443000ABE0`, `:00000001FF`
abbrev pub letters : List (List ℕ)
letters =
    first_line
    ∷ (58 ∷ 48 ∷ 49 ∷ 52 ∷ 52 ∷ 51 ∷ 48 ∷ 48 ∷ 48 ∷ 65 ∷ 66 ∷ 69 ∷ 48 ∷ 10 ∷ [])
    ∷ (58 ∷ 48 ∷ 48 ∷ 48 ∷ 48 ∷ 48 ∷ 48 ∷ 48 ∷ 49 ∷ 70 ∷ 70 ∷ 10 ∷ [])
    ∷ []

abbrev answer_to : List ℕ → Answer
answer_to t = record { result = read_lines (start 4) (lines_of t); taken = lines_taken (start 4) (lines_of t) }

abbrev pub answers : List Case → List Answer
answers [] = []
answers (c ∷ cs) = answer_to c.text ∷ answers cs

abbrev pub expected : List Case → List Answer
expected [] = []
expected (c ∷ cs) = c.answer ∷ expected cs

-- ---- "−19 first for a destination of another length", "Writing: −19, then −34": nothing is lent, so that the second fault is there too
abbrev pub empty : List ℤ
empty = (read_outcome [] []).reply ∷ (write_outcome [] []).reply ∷ []

abbrev pub bad_states : List ℤ
bad_states = number BadState ∷ number BadState ∷ []
