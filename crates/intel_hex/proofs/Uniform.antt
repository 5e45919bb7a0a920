-- A text in one letter case and with one line end is one of the accepted.
use mathlib.Core.Bool.{Bool}
use mathlib.Core.List.{List, [], ◌∷◌, ◌++◌}
use mathlib.Core.Path.{◌≡◌, refl, ap}
use Prim.Native.Nat.{ℕ, ◌+◌, ◌≤◌}
use native.Mathlib.Omega.{arith}
use lib.ListN.{length, length-append}
use Rattle.words.specs.Sizes.{state_length}
use Rattle.intel_hex.specs.HexLines.{HexLine, line_text}
use Rattle.intel_hex.specs.Marks.{data_type, half}
use Rattle.intel_hex.specs.Pairs.{spelled}
use Rattle.intel_hex.specs.Reading.{gives, read_text}
use Rattle.intel_hex.specs.Records.{record_of}
use Rattle.intel_hex.specs.Tolerance.{Carry, Pieces, joined, texts_of}
use Rattle.intel_hex.specs.Writing.{data_lines, end_record, line_of, text_of, upper_record}
use Rattle.intel_hex.proofs.ReadAny.{read_any}
use Rattle.intel_hex.proofs.RecordLaws.{bytes_record}
use Rattle.intel_hex.proofs.Spelling.{line_spells}

module _ (c r : Bool) where
  abbrev hex_line : List ℕ → HexLine
  hex_line bs = record { digits = spelled c bs; returned = r }

  abbrev hex_lines : ℕ → List (List ℕ) → List HexLine
  hex_lines a [] = []
  hex_lines a (p ∷ ps) = hex_line (record_of data_type a p) ∷ hex_lines (a + length p) ps

  same_text : (a : ℕ) (ps : List (List ℕ)) → texts_of (hex_lines a ps) ≡ data_lines c r a ps
  unfolding texts_of data_lines line_of
  same_text a [] = refl
  same_text a (p ∷ ps) = ap (λ (t : List ℕ). line_text (hex_line (record_of data_type a p)) ++ t) (same_text (a + length p) ps)

  carried : (a : ℕ) (ps : List (List ℕ)) → Pieces ps → a + length (joined ps) ≤ half → Carry (hex_lines a ps) a ps
  unfolding joined
  carried a [] h m = tt
  carried a (p ∷ ps) h m =
      let q = length-append p (joined ps) in
      (line_spells c r _ (bytes_record data_type a p (omega arith) (omega (arith, q, h.0)) (omega (arith, h.1)) h.2), h.0, carried (a + length p) ps h.3 (omega (arith, q)))

  pub read_text_lem : (ps : List (List ℕ)) → Pieces ps → length (joined ps) ≡ state_length → read_text (text_of c r ps) ≡ gives (joined ps)
  unfolding line_of
  read_text_lem ps h e =
      let up = line_spells c r upper_record (bytes_record 4 0 (32 ∷ 0 ∷ []) (omega arith) (omega arith) (omega arith) (omega arith, (omega arith, tt))) in
      let end = line_spells c r end_record (bytes_record 1 0 [] (omega arith) (omega arith) (omega arith) tt) in
      rw (← same_text 0 ps) (read_any (hex_line upper_record) (hex_line end_record) (hex_lines 0 ps) ps up (carried 0 ps h (omega (arith, e))) end e)
