-- A text put together in place.
use mathlib.Core.Bool.{Bool, true, false}
use mathlib.Core.List.{List, [], ◌∷◌, ◌++◌, append_assoc, append-nil}
use mathlib.Core.Path.{◌≡◌, refl, ap, sym, ◌∙◌}
use Prim.Native.Nat.{ℕ, zero, suc, ◌+◌, ◌-◌, ◌*◌, ◌/◌, ◌%◌, ◌<◌, ◌≤◌}
use native.Mathlib.Nat.{add-sub_cancel_left}
use native.Mathlib.Numerals.{add-one}
use native.Mathlib.Omega.{arith}
use lib.ListN.{get_or, length, take, drop, set, length-append, length-drop}
use lib.Seq.{drop-drop, length-take-le, sets-eq, take-suc}
use Rattle.words.specs.Sizes.{state_length}
use Rattle.state.specs.State.{splice}
use Rattle.state.proofs.Pieces.{splice_all, splice_lent}
use Rattle.digits.specs.Digits.{digit_for}
use Rattle.intel_hex.specs.Marks.{colon, data_line, data_type, end_line, line_feed, piece_count, piece_length, text_length, upper_line}
use Rattle.intel_hex.specs.Pairs.{spelled}
use Rattle.intel_hex.specs.Records.{fields, record_of, sum_byte}
use Rattle.intel_hex.specs.Writing.{data_lines, end_record, line_of, sixteens, upper_record, written}
use Rattle.intel_hex.proofs.Lengths.{length_data, length_line}
use Rattle.intel_hex.proofs.Spelling.{length_spelled}
use Rattle.intel_hex.proofs.Splices.{set_behind, set_splice, splice_behind, splice_front, splice_none}

-- ---- parts
pub two : (l : List ℕ) (at a b : ℕ) → at + 2 ≤ length l → set (set l at a) (at + 1) b ≡ splice at (a ∷ b ∷ []) l
unfolding splice
two l at a b h = rw (add-one at) (sets-eq (a ∷ b ∷ []) l at h ∙ append_assoc (take at l) (a ∷ b ∷ []) (drop (at + 2) l))

-- a part lent on: it comes back replaced
pub lent : (l x v : List ℕ) (at k : ℕ) → x ≡ v → length v ≡ k → take at l ++ (x ++ drop (at + k - at) (drop at l)) ≡ splice at v l
lent l x v at k e h =
    ap (λ (n : ℕ). take at l ++ (x ++ drop n (drop at l))) (add-sub_cancel_left at k)
    ∙ ap (λ (y : List ℕ). take at l ++ (y ++ drop k (drop at l))) e
    ∙ splice_lent l v at k h

-- ---- bytes spelled one behind the other
spelled_append : (c : Bool) (xs ys : List ℕ) → spelled c (xs ++ ys) ≡ spelled c xs ++ spelled c ys
unfolding spelled
spelled_append c [] ys = refl
spelled_append c (x ∷ xs) ys = ap (λ (l : List ℕ). digit_for c (x / 16) ∷ digit_for c (x % 16) ∷ l) (spelled_append c xs ys)

pub put_none : (l bs : List ℕ) (at : ℕ) → l ≡ splice at (spelled true (take 0 bs)) l
unfolding spelled
put_none l bs at = sym (splice_none l at)

pub put_more : (l bs : List ℕ) (at i : ℕ) → i < length bs → at ≤ length l
    → splice (at + 2 * i) (spelled true (get_or bs i 0 ∷ [])) (splice at (spelled true (take i bs)) l) ≡ splice at (spelled true (take (i + 1) bs)) l
put_more l bs at i h k =
    let n : length (spelled true (take i bs)) ≡ 2 * i = omega (arith, length_spelled true (take i bs), length-take-le i bs (omega arith)) in
    splice_behind l (spelled true (take i bs)) (spelled true (get_or bs i 0 ∷ [])) at (at + 2 * i) (omega arith) k
    ∙ rw (← spelled_append true (take i bs) (get_or bs i 0 ∷ []), add-one i, take-suc bs i 0 h)

-- ---- a line in the part that is to be its own
module _ (part bs : List ℕ) (t a : ℕ) (n : length part ≡ end_line + 2 * length bs) where
  abbrev head : List ℕ
  head = length bs ∷ a / 256 ∷ a % 256 ∷ t ∷ []

  abbrev check : List ℕ
  check = sum_byte (fields t a bs) ∷ []

  -- all but the line feed
  abbrev body : List ℕ
  body = colon ∷ ((spelled true head ++ spelled true bs) ++ spelled true check)

  length_body : length body ≡ 11 + 2 * length bs
  length_body =
      omega (
        arith,
        length-append (spelled true head ++ spelled true bs) (spelled true check),
        length-append (spelled true head) (spelled true bs),
        length_spelled true head,
        length_spelled true bs,
        length_spelled true check,
      )

  body_put : splice (9 + 2 * length bs) (spelled true check) (splice 9 (spelled true bs) (splice 1 (spelled true head) (set part 0 colon))) ≡ splice 0 body part
  body_put =
      let k : length (spelled true head) ≡ 8 = length_spelled true head in
      let b = length_spelled true bs in
      let f = length-append (spelled true head) (spelled true bs) in
      rw (
        set_splice part 0 58 (omega arith),
        splice_behind part (58 ∷ []) (spelled true head) 0 1 refl (omega arith),
        splice_behind part (58 ∷ spelled true head) (spelled true bs) 0 9 (omega arith) (omega arith),
        splice_behind part (58 ∷ (spelled true head ++ spelled true bs)) (spelled true check) 0 (9 + 2 * length bs) (omega arith) (omega arith),
      )

  line_whole : body ++ (line_feed ∷ []) ≡ line_of true false (record_of t a bs)
  unfolding line_of record_of
  line_whole = rw (spelled_append true (fields t a bs) check, spelled_append true head bs)

  pub line_put : set (splice (9 + 2 * length bs) (spelled true check) (splice 9 (spelled true bs) (splice 1 (spelled true head) (set part 0 colon)))) (11 + 2 * length bs) line_feed
      ≡ line_of true false (record_of t a bs)
  line_put =
      rw (
        body_put,
        set_behind part body 0 (11 + 2 * length bs) line_feed (omega (arith, length_body)) (omega arith),
        splice_all (body ++ (line_feed ∷ [])) part (omega (arith, length-append body (line_feed ∷ []), length_body)),
      ) line_whole

-- ---- data records one behind the other
data_more : (k a : ℕ) (b : List ℕ) → piece_length * suc k ≤ length b
    → data_lines true false a (sixteens (suc k) b) ≡ data_lines true false a (sixteens k b) ++ line_of true false (record_of data_type (a + piece_length * k) (take piece_length (drop (piece_length * k) b)))
unfolding data_lines sixteens
data_more zero a b h =
    let e : a + 16 * 0 ≡ a = omega arith in
    rw (append-nil (line_of true false (record_of data_type a (take piece_length b))), e)
data_more (suc k) a b h =
    let n : length (take piece_length b) ≡ 16 = length-take-le 16 b (omega arith) in
    let e : a + 16 + 16 * k ≡ a + 16 * suc k = omega arith in
    let f : 16 + 16 * k ≡ 16 * suc k = omega arith in
    ap (λ (x : List ℕ). line_of true false (record_of data_type a (take piece_length b)) ++ x) (data_more k (a + length (take piece_length b)) (drop piece_length b) (omega (arith, length-drop 16 b)))
    ∙ sym (append_assoc (line_of true false (record_of data_type a (take piece_length b))) (data_lines true false (a + length (take piece_length b)) (sixteens k (drop piece_length b))) _)
    ∙ rw (n, drop-drop (16 * k) 16 b, e, f)

abbrev up : List ℕ
up = line_of true false upper_record

abbrev end : List ℕ
end = line_of true false end_record

pub data_none : (b out : List ℕ) → out ≡ splice upper_line (data_lines true false 0 (sixteens 0 b)) out
unfolding sixteens data_lines
data_none b out = sym (splice_none out 16)

pub data_next : (b out : List ℕ) (k : ℕ) → piece_length * (k + 1) ≤ length b → upper_line ≤ length out
    → splice (upper_line + data_line * k) (line_of true false (record_of data_type (piece_length * k) (take piece_length (drop (piece_length * k) b))))
    (splice upper_line (data_lines true false 0 (sixteens k b)) out)
    ≡ splice upper_line (data_lines true false 0 (sixteens (k + 1) b)) out
data_next b out k h n =
    let l = length_data k 0 b (omega arith) in
    let z : 0 + 16 * k ≡ 16 * k = omega arith in
    splice_behind out (data_lines true false 0 (sixteens k b)) (line_of true false (record_of data_type (16 * k) (take piece_length (drop (piece_length * k) b)))) 16 (16 + data_line * k) (omega arith) n
    ∙ ap (λ (x : List ℕ). splice 16 x out) (rw (add-one k, data_more k 0 b (omega arith), z))

-- the whole text
pub text_done : (b out : List ℕ) → length b ≡ state_length
    → splice (text_length - end_line) end (splice upper_line (data_lines true false 0 (sixteens piece_count b)) (splice 0 up out)) ≡ written b ++ drop text_length out
unfolding written
text_done b out e =
    let lines = data_lines true false 0 (sixteens piece_count b) in
    let l : length lines ≡ data_line * piece_count = length_data piece_count 0 b (omega arith) in
    let u : length up ≡ 16 = length_line true 4 0 (32 ∷ 0 ∷ []) in
    let n = length-append up lines in
    ap (splice (text_length - end_line) end) (splice_behind out up lines 0 16 (omega arith) (omega arith))
    ∙ splice_behind out (up ++ lines) end 0 (text_length - end_line) (omega arith) (omega arith)
    ∙ splice_front ((up ++ lines) ++ end) out text_length (omega (arith, length-append (up ++ lines) end, length_line true 1 0 []))
    ∙ ap (λ (x : List ℕ). x ++ drop text_length out) (append_assoc up lines end)
