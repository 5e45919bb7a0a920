-- How long the lines and the text of the writer are: "48,076 bytes".
use mathlib.Core.Bool.{Bool, true, false}
use mathlib.Core.List.{List, [], ◌∷◌, ◌++◌}
use mathlib.Core.Path.{◌≡◌, refl}
use Prim.Native.Nat.{ℕ, zero, suc, ◌+◌, ◌*◌, ◌≤◌}
use native.Mathlib.Omega.{arith}
use lib.ListN.{length, take, drop, length-append, length-drop}
use lib.Seq.{length-take-le}
use Rattle.words.specs.Sizes.{state_length}
use Rattle.intel_hex.specs.Marks.{data_line, data_type, end_line, piece_count, piece_length, text_length}
use Rattle.intel_hex.specs.Pairs.{spelled}
use Rattle.intel_hex.specs.Records.{fields, record_of, sum_byte}
use Rattle.intel_hex.specs.Writing.{data_lines, end_record, line_of, sixteens, upper_record, written}
use Rattle.intel_hex.proofs.Spelling.{length_spelled}

pub length_line : (c : Bool) (t a : ℕ) (bs : List ℕ) → length (line_of c false (record_of t a bs)) ≡ end_line + 2 * length bs
unfolding line_of record_of
length_line c t a bs = omega (arith, length-append (spelled c (record_of t a bs)) (10 ∷ []), length_spelled c (record_of t a bs), length-append bs (sum_byte (fields t a bs) ∷ []))

pub length_data : (n a : ℕ) (b : List ℕ) → piece_length * n ≤ length b → length (data_lines true false a (sixteens n b)) ≡ data_line * n
unfolding sixteens data_lines
length_data zero a b h = refl
length_data (suc n) a b h =
    let k : length (take 16 b) ≡ 16 = length-take-le 16 b (omega arith) in
    omega (
      arith,
      length-append (line_of true false (record_of data_type a (take 16 b))) (data_lines true false (a + length (take 16 b)) (sixteens n (drop 16 b))),
      length_line true data_type a (take 16 b),
      length_data n (a + length (take 16 b)) (drop 16 b) (omega (arith, length-drop 16 b)),
    )

pub written_length : (b : List ℕ) → length b ≡ state_length → length (written b) ≡ text_length
unfolding written
written_length b e =
    let lines = data_lines true false 0 (sixteens piece_count b) in
    let end = line_of true false end_record in
    omega (
      arith,
      length-append (line_of true false upper_record) (lines ++ end),
      length-append lines end,
      length_line true 4 0 (32 ∷ 0 ∷ []),
      length_line true 1 0 [],
      length_data piece_count 0 b (omega (arith, e)),
    )
