-- What a text gives is bytes: a pair of digits spells no more than 255.
use mathlib.Core.Bool.{Bool, true, false}
use mathlib.Core.List.{List, [], ◌∷◌}
use mathlib.Core.Path.{◌≡◌, refl}
use Prim.Native.Nat.{ℕ, zero, suc, ◌+◌, ◌%◌, ◌<◌, ◌≤◌}
use native.Mathlib.Omega.{arith}
use lib.Dec.{eqb}
use lib.ListN.{length, take, drop, replicate}
use borrow.Author.Tests.{ltb-true}
use Rattle.words.proofs.Tests.{and_left, and_right}
use Rattle.words.specs.Sizes.{state_length}
use Rattle.words.specs.Tests.{choose}
use Rattle.state.specs.State.{splice}
use Rattle.digits.specs.Digits.{all_digits, digit_of}
use Rattle.intel_hex.specs.Bytes.{AllBytes, Every}
use Rattle.intel_hex.specs.Pairs.{all_hex, pairs}
use Rattle.intel_hex.specs.Lines.{body_of, lines_of, readable, spelled_by, spells}
use Rattle.intel_hex.specs.Reading.{Given, Result, Step, bad, data_step, end_step, faulty, filled, full, given, gives, is_open, line_step, nothing_more, on, over, read_lines, read_text, record_step, start, unset}
use Rattle.intel_hex.specs.Records.{data_in, length_in, sum_of, type_in}
use Rattle.intel_hex.proofs.EveryLaws.{every_drop, every_join, every_take}

bytes_pairs : (l : List ℕ) → all_hex l ≡ true → AllBytes (pairs l)
unfolding all_digits pairs
bytes_pairs [] e = tt
bytes_pairs (a ∷ []) e = tt
bytes_pairs (a ∷ b ∷ bs) e =
    let p : digit_of a < 16 = ltb-true _ _ (and_left _ _ e) in
    let q : digit_of b < 16 = ltb-true _ _ (and_left _ _ (and_right _ _ e)) in
    (omega arith, bytes_pairs bs (and_right _ _ (and_right _ _ e)))

pub bytes_spelled : (l : List ℕ) → spells l ≡ true → AllBytes (spelled_by l)
unfolding spells
bytes_spelled l s = bytes_pairs (drop 1 l) (and_left _ _ (and_right _ _ s))

-- ---- cells that hold bytes
abbrev Small : ℕ → Type 0
Small c = c ≤ 256

abbrev Cells : List ℕ → Type 0
Cells c = Every Small c

cells_filled : (bs : List ℕ) → AllBytes bs → Cells (filled bs)
unfolding filled
cells_filled [] h = tt
cells_filled (b ∷ bs) h = let k : b < 256 = h.0 in (omega arith, cells_filled bs h.1)

cells_given : (c : List ℕ) → Cells c → AllBytes (given c)
unfolding given
cells_given [] h = tt
cells_given (x ∷ c) h = let k : x ≤ 256 = h.0 in (omega arith, cells_given c h.1)

cells_splice : (n : ℕ) (v c : List ℕ) → Cells v → Cells c → Cells (splice n v c)
unfolding splice
cells_splice n v c h k = every_join Small (take n c) _ (every_take Small n c k) (every_join Small v _ h (every_drop Small (n + length v) c k))

cells_zeros : (n : ℕ) → Cells (replicate n 0)
cells_zeros zero = tt
cells_zeros (suc n) = (omega arith, cells_zeros n)

cells_unset : (n : ℕ) → Cells (unset n)
unfolding unset
cells_unset n = cells_zeros n

-- ---- a step, a line, the lines
abbrev StepBytes : Step → Type 0
StepBytes (on h) = Cells h.cells
StepBytes (over b) = AllBytes b
StepBytes (bad f) = Unit {0}

step_choose : (z : Bool) (s t : Step) → StepBytes s → StepBytes t → StepBytes (choose z s t)
step_choose true s t h k = h
step_choose false s t h k = k

module _ (g : Given) (h : Cells g.cells) where
  data_bytes : (a : ℕ) (bs : List ℕ) → AllBytes bs → StepBytes (data_step g a bs)
  unfolding data_step
  data_bytes a bs k = step_choose (is_open g.cells a (length bs)) _ _ (cells_splice _ (filled bs) g.cells (cells_filled bs k) h) tt

  record_bytes : (r : List ℕ) → AllBytes r → StepBytes (record_step g r)
  unfolding record_step end_step data_in
  record_bytes r k =
      step_choose (eqb (type_in r) 0) _ _ (data_bytes _ (data_in r) (every_take (λ b. b < 256) (length_in r) (drop 4 r) (every_drop (λ b. b < 256) 4 r k)))
      (step_choose (eqb (type_in r) 4) _ _ h (step_choose (full g.cells) _ _ (cells_given g.cells h) tt))

  line_bytes : (l : List ℕ) → StepBytes (line_step g l)
  unfolding line_step readable
  line_bytes l = go (readable l) refl
    where
      go : (z : Bool) → readable l ≡ z → StepBytes (line_step g l)
      go true e = rw e (step_choose (eqb (sum_of (spelled_by (body_of l)) % 256) 0) _ _ (record_bytes (spelled_by (body_of l)) (bytes_spelled (body_of l) (and_left _ _ (and_right _ _ e)))) tt)
      go false e = rw e tt

abbrev ResultBytes : Result → Type 0
ResultBytes (gives b) = AllBytes b
ResultBytes (faulty f) = Unit {0}

more_bytes : (b : List ℕ) (ls : List (List ℕ)) → AllBytes b → ResultBytes (nothing_more b ls)
unfolding nothing_more
more_bytes b [] h = h
more_bytes b (l ∷ ls) h = tt

pub lines_bytes : (g : Given) (ls : List (List ℕ)) → Cells g.cells → ResultBytes (read_lines g ls)
unfolding read_lines
lines_bytes g [] h = tt
lines_bytes g (l ∷ ls) h = go (line_step g l) refl (line_bytes g h l) (λ f k. lines_bytes f ls k)
  where
    go : (s : Step) → line_step g l ≡ s → StepBytes s → ((f : Given) → Cells f.cells → ResultBytes (read_lines f ls)) → ResultBytes (read_lines g (l ∷ ls))
    go (on f) e k again = rw (e, read_lines) (again f k)
    go (over b) e k again = rw (e, read_lines) (more_bytes b ls k)
    go (bad f) e k again = rw (e, read_lines) tt

pub read_bytes : (t b : List ℕ) → read_text t ≡ gives b → AllBytes b
unfolding read_text
read_bytes t b e = rw e at (lines_bytes (start state_length) (lines_of t) (cells_unset state_length))
