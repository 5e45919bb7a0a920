-- What reading accepts, as a theorem: lines in any letter cases and line ends that carry the bytes one behind the other.
use mathlib.Core.List.{List, [], ◌∷◌, ◌++◌, append_assoc, append-nil}
use mathlib.Core.Path.{◌≡◌, refl, ◌∙◌}
use mathlib.Core.Bool.{true}
use Prim.Native.Nat.{ℕ, ◌+◌, ◌≤◌}
use native.Mathlib.Omega.{arith}
use lib.ListN.{length, length-append, replicate}
use borrow.Author.Tests.{le-leb}
use Rattle.words.specs.Sizes.{state_length}
use Rattle.intel_hex.specs.HexLines.{HexLine, Spells, line_text}
use Rattle.intel_hex.specs.Lines.{lines_of}
use Rattle.intel_hex.specs.Marks.{data_type, end_type, half, state_upper, upper_type}
use Rattle.intel_hex.specs.Reading.{end_step, filled, gives, line_step, nothing_more, on, over, read_lines, read_text, record_step, start, unset}
use Rattle.intel_hex.specs.Records.{length_fits, record_of}
use Rattle.intel_hex.specs.Tolerance.{Carry, joined, texts_of}
use Rattle.intel_hex.specs.Writing.{end_record, upper_record}
use Rattle.intel_hex.proofs.Filling.{given_up_to, full_filled, given_filled, piece_step}
use Rattle.intel_hex.proofs.LineLaws.{line_alone, line_found, line_step_lem}
use Rattle.intel_hex.proofs.Steps.{line_on, line_over}

-- ---- the pieces one after the other
fits_data : (n : ℕ) → 1 ≤ n → length_fits data_type n ≡ true
unfolding length_fits
fits_data n h = le-leb 1 n h

all_pieces : (d : List ℕ) (ls : List HexLine) (ps : List (List ℕ)) (tail : List ℕ) → Carry ls (length d) ps → length d + length (joined ps) ≤ half
    → read_lines (given_up_to d (length (joined ps))) (lines_of (texts_of ls ++ tail)) ≡ read_lines (given_up_to (d ++ joined ps) 0) (lines_of tail)
unfolding joined texts_of
all_pieces d [] [] tail h m = rw (append-nil d)
all_pieces d [] (p ∷ ps) tail h m = absurd h
all_pieces d (l ∷ ls) [] tail h m = absurd h
all_pieces d (l ∷ ls) (p ∷ ps) tail h m =
    let q = length-append p (joined ps) in
    let s : line_step (given_up_to d (length p + length (joined ps))) (line_text l) ≡ on (given_up_to (d ++ p) (length (joined ps)))
    = line_step_lem l _ data_type (length d) p h.0 (fits_data (length p) h.1) ∙ piece_step d p (length (joined ps)) (omega (arith, q, h.1)) in
    let e = length-append d p in
    let k : length (d ++ p) + length (joined ps) ≤ half = omega (arith, e, q) in
    rw (
      append_assoc (line_text l) (texts_of ls) tail,
      line_found l (record_of data_type (length d) p) h.0 (texts_of ls ++ tail),
      q,
      line_on _ _ (lines_of (texts_of ls ++ tail)) _ s,
      ← append_assoc d p (joined ps),
    ) (all_pieces (d ++ p) ls ps tail (rw e h.2) k)

-- ---- the address record and the end record
fits_upper : length_fits upper_type 2 ≡ true
unfolding length_fits
fits_upper = refl

fits_end : length_fits end_type 0 ≡ true
unfolding length_fits
fits_end = refl

upper_does : (cells : List ℕ) → record_step (record { cells = cells; upper = 0 }) upper_record ≡ on (record { cells = cells; upper = state_upper })
unfolding record_step record_of
upper_does cells = refl

end_does : (b : List ℕ) → record_step (given_up_to b 0) end_record ≡ over b
unfolding record_step record_of end_step
end_does b = rw (append-nil (filled b), full_filled b, given_filled b)

-- ---- the whole text
unset_upto : (n : ℕ) → unset n ≡ filled [] ++ replicate n 0
unfolding unset filled
unset_upto n = refl

all_lines : (up end : HexLine) (ls : List HexLine) (ps : List (List ℕ)) (n : ℕ) → Spells up upper_record → Carry ls 0 ps → Spells end end_record
    → length (joined ps) ≡ n → n ≤ half → read_lines (start n) (lines_of (line_text up ++ (texts_of ls ++ line_text end))) ≡ gives (joined ps)
unfolding nothing_more
all_lines up end ls ps n u h w e m =
    rw (
      line_found up upper_record u (texts_of ls ++ line_text end),
      line_on (start n) _ (lines_of (texts_of ls ++ line_text end)) _ (line_step_lem up _ 4 0 (32 ∷ 0 ∷ []) u fits_upper ∙ upper_does (unset n)),
      unset_upto n,
      ← e,
      all_pieces [] ls ps (line_text end) h (omega (arith, e)),
      line_alone end end_record w,
    ) (line_over (given_up_to (joined ps) 0) (line_text end) [] (joined ps) (line_step_lem end _ 1 0 [] w fits_end ∙ end_does (joined ps)))

-- "Read it back, accepting either letter case, any data length from 1 to 255 and CR LF"
pub read_any : (up end : HexLine) (ls : List HexLine) (ps : List (List ℕ)) → Spells up upper_record → Carry ls 0 ps → Spells end end_record
    → length (joined ps) ≡ state_length → read_text (line_text up ++ (texts_of ls ++ line_text end)) ≡ gives (joined ps)
unfolding read_text
read_any up end ls ps u h w e = all_lines up end ls ps state_length u h w e (omega arith)
