-- A line that spells a record is found as a line, and read as that record.
use mathlib.Core.Bool.{Bool, true, false}
use mathlib.Core.List.{List, [], ◌∷◌, ◌++◌, append_assoc, append-nil}
use mathlib.Core.Path.{◌≡◌, refl, ap, sym, ◌∙◌}
use Prim.Native.Nat.{ℕ, ◌-◌, ◌<◌, ◌≤◌}
use native.Mathlib.Omega.{arith}
use lib.ListN.{length, length-append}
use lib.Seq.{take_at, get_or_at}
use borrow.Author.Tests.{eq-eqb, ltb-true, ne_eqb}
use Rattle.words.proofs.Tests.{and_left, and_right}
use Rattle.words.specs.Tests.{◌&◌}
use Rattle.digits.specs.Digits.{all_digits, digit_of, within}
use Rattle.intel_hex.specs.Bytes.{Every}
use Rattle.intel_hex.specs.HexLines.{HexLine, Spells, end_of, line_text}
use Rattle.intel_hex.specs.Lines.{body_of, last_of, lines_of, longer, readable, shorter, spells, unreturned}
use Rattle.intel_hex.specs.Marks.{carriage_return, colon, line_feed}
use Rattle.intel_hex.specs.Pairs.{all_hex}
use Rattle.intel_hex.specs.Reading.{Given, line_step, record_step}
use Rattle.intel_hex.specs.Records.{length_fits, record_of, whole}
use Rattle.intel_hex.proofs.EveryLaws.{every_at, every_join}
use Rattle.intel_hex.proofs.RecordLaws.{sum_record, whole_record}

-- ---- lists in which a character does not stand
abbrev Free : ℕ → List ℕ → Type 0
Free n cs = Every (λ c. c ≡ n → ⊥) cs

hex_free : (n : ℕ) → 16 ≤ digit_of n → (cs : List ℕ) → all_hex cs ≡ true → Free n cs
unfolding all_digits
hex_free n h [] e = tt
hex_free n h (c ∷ cs) e =
    let d : digit_of c < 16 = ltb-true _ _ (and_left _ _ e) in
    ((λ q. let v : digit_of c ≡ digit_of n = ap digit_of q in omega arith), hex_free n h cs (and_right _ _ e))

feed_none : 16 ≤ digit_of line_feed
unfolding digit_of within ◌&◌
feed_none = omega arith

return_none : 16 ≤ digit_of carriage_return
unfolding digit_of within ◌&◌
return_none = omega arith

-- ---- the first line of a text
one_line : (l rest : List ℕ) → Free line_feed l → lines_of (l ++ (line_feed ∷ rest)) ≡ (l ++ (line_feed ∷ [])) ∷ lines_of rest
unfolding lines_of longer
one_line [] rest h = refl
one_line (x ∷ xs) rest h = rw (ne_eqb x 10 h.0, one_line xs rest h.1)

-- ---- the last character, and the rest
last_at : (xs : List ℕ) (x : ℕ) → last_of (xs ++ (x ∷ [])) ≡ x
last_at xs x = get_or_at xs x [] 0 (length (xs ++ (x ∷ [])) - 1) (omega (arith, length-append xs (x ∷ [])))

short_at : (xs : List ℕ) (x : ℕ) → shorter (xs ++ (x ∷ [])) ≡ xs
short_at xs x = take_at xs (x ∷ []) (length (xs ++ (x ∷ [])) - 1) (omega (arith, length-append xs (x ∷ [])))

two_ends : (xs : List ℕ) → xs ++ (13 ∷ 10 ∷ []) ≡ (xs ++ (13 ∷ [])) ++ (10 ∷ [])
two_ends xs = sym (append_assoc xs (13 ∷ []) (10 ∷ []))

-- ---- a line of digits
module _ (cs : List ℕ) (hex : all_hex cs ≡ true) where
  no_feed : Free line_feed (colon ∷ cs)
  no_feed = ((λ e. omega arith), hex_free line_feed feed_none cs hex)

  no_return : Free carriage_return (colon ∷ cs)
  no_return = ((λ e. omega arith), hex_free carriage_return return_none cs hex)

  found : (r : Bool) (rest : List ℕ) → lines_of ((colon ∷ (cs ++ end_of r)) ++ rest) ≡ (colon ∷ (cs ++ end_of r)) ∷ lines_of rest
  found true rest =
      rw (two_ends cs, append_assoc (cs ++ (13 ∷ [])) (10 ∷ []) rest)
      (one_line (colon ∷ (cs ++ (13 ∷ []))) rest (every_join (λ c. c ≡ line_feed → ⊥) (colon ∷ cs) (13 ∷ []) no_feed ((λ e. omega arith), tt)))
  found false rest = rw (append_assoc cs (10 ∷ []) rest) (one_line (colon ∷ cs) rest no_feed)

  last : (r : Bool) → last_of (colon ∷ (cs ++ end_of r)) ≡ line_feed
  last true = rw (two_ends cs) (last_at (colon ∷ (cs ++ (13 ∷ []))) 10)
  last false = last_at (colon ∷ cs) 10

  body : (r : Bool) → body_of (colon ∷ (cs ++ end_of r)) ≡ colon ∷ cs
  unfolding body_of unreturned
  body true = rw (two_ends cs, short_at (colon ∷ (cs ++ (13 ∷ []))) 10, last_at (colon ∷ cs) 13) (short_at (colon ∷ cs) 13)
  body false =
      let k : last_of (colon ∷ cs) ≡ 13 → ⊥ = every_at (λ c. c ≡ carriage_return → ⊥) (λ e. omega arith) (colon ∷ cs) no_return (length (colon ∷ cs) - 1) in
      rw (short_at (colon ∷ cs) 10, ne_eqb _ _ k)

-- ---- a line that spells a record
module _ (l : HexLine) where
  pub line_found : (r : List ℕ) → Spells l r → (rest : List ℕ) → lines_of (line_text l ++ rest) ≡ line_text l ∷ lines_of rest
  line_found r s rest = found l.digits s.0 l.returned rest

  pub line_alone : (r : List ℕ) → Spells l r → lines_of (line_text l) ≡ line_text l ∷ []
  unfolding lines_of
  line_alone r s = ap lines_of (sym (append-nil (line_text l))) ∙ line_found r s []

  readable_line : (r : List ℕ) → Spells l r → whole r ≡ true → readable (line_text l) ≡ true
  unfolding readable spells ◌&◌
  readable_line r s w = rw (eq-eqb _ _ (last l.digits s.0 l.returned), body l.digits s.0 l.returned, s.0, eq-eqb _ _ s.1, s.2) w

  -- it does what the record does
  pub line_step_lem : (g : Given) (t a : ℕ) (bs : List ℕ) → Spells l (record_of t a bs) → length_fits t (length bs) ≡ true
      → line_step g (line_text l) ≡ record_step g (record_of t a bs)
  unfolding line_step
  line_step_lem g t a bs s f =
      rw (readable_line (record_of t a bs) s (whole_record t a bs f), body l.digits s.0 l.returned, s.2, eq-eqb _ _ (sum_record t a bs))
