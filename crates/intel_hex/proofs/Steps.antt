-- A record's step as the code takes it, and the lines of a text one after the other.
use mathlib.Core.Bool.{true, false}
use mathlib.Core.List.{List, ◌∷◌}
use mathlib.Core.Path.{◌≡◌}
use Prim.Native.Nat.{ℕ, suc, ◌+◌, ◌*◌, ◌<◌, ◌≤◌}
use native.Mathlib.Omega.{arith}
use lib.ListN.{length, take, drop, drop_of_length-le, length-drop}
use lib.Seq.{length-take-le}
use borrow.Author.Tests.{eqb-true}
use Rattle.words.proofs.Tests.{and_left}
use Rattle.words.specs.Sizes.{state_length}
use Rattle.state.specs.State.{splice}
use Rattle.intel_hex.specs.Lines.{lines_of}
use Rattle.intel_hex.specs.Marks.{frame_length, half, state_upper}
use Rattle.intel_hex.specs.Names.{Fault, Address, End}
use Rattle.intel_hex.specs.Reading.{Given, Step, bad, data_step, faulty, filled, gives, line_step, lines_taken, nothing_more, on, over, read_lines, vacant}
use Rattle.intel_hex.specs.Records.{address_in, data_in, length_in, whole}
use Rattle.intel_hex.proofs.CellLaws.{beyond, inside, other_half}
use Rattle.intel_hex.proofs.Filling.{from_start}
use Rattle.intel_hex.proofs.Finding.{lines_at}

-- ---- a data record
module _ (r : List ℕ) (w : whole r ≡ true) where
  pub whole_length : length r ≡ length_in r + frame_length
  unfolding whole
  whole_length = eqb-true _ _ (and_left _ _ w)

  pub data_length : length (data_in r) ≡ length_in r
  unfolding data_in
  data_length = length-take-le (length_in r) (drop 4 r) (omega (arith, length-drop 4 r, whole_length))

  module _ (c : List ℕ) (l : length c ≡ state_length) where
    abbrev at : ℕ → Step
    at u = data_step (record { cells = c; upper = u }) (half * u + address_in r) (data_in r)

    pub data_other : (u : ℕ) → address_in r < half → (u ≡ state_upper → ⊥) → at u ≡ bad Address
    unfolding data_step
    data_other u h e = rw (other_half c l u (address_in r) (length (data_in r)) h e)

    pub data_beyond : (u : ℕ) → u ≡ state_upper → state_length < address_in r + length_in r → at u ≡ bad Address
    unfolding data_step
    data_beyond u e h = rw (e, data_length, beyond c l (address_in r) (length_in r) h)

    pub data_twice : (u : ℕ) → u ≡ state_upper → address_in r + length_in r ≤ state_length → vacant (take (length_in r) (drop (address_in r) c)) ≡ false → at u ≡ bad Address
    unfolding data_step
    data_twice u e h v = rw (e, data_length, inside c l (address_in r) (length_in r) h, v)

    pub data_placed : (u : ℕ) → u ≡ state_upper → address_in r + length_in r ≤ state_length → vacant (take (length_in r) (drop (address_in r) c)) ≡ true
        → at u ≡ on (record { cells = splice (address_in r) (filled (data_in r)) c; upper = u })
    unfolding data_step
    data_placed u e h v = rw (e, data_length, inside c l (address_in r) (length_in r) h, v, from_start (address_in r))

-- ---- the lines
module _ (g : Given) (l : List ℕ) (ls : List (List ℕ)) where
  pub line_on : (h : Given) → line_step g l ≡ on h → read_lines g (l ∷ ls) ≡ read_lines h ls
  unfolding read_lines
  line_on h e = rw (e, read_lines)

  pub line_over : (b : List ℕ) → line_step g l ≡ over b → read_lines g (l ∷ ls) ≡ nothing_more b ls
  unfolding read_lines
  line_over b e = rw (e, read_lines)

  pub line_bad : (f : Fault) → line_step g l ≡ bad f → read_lines g (l ∷ ls) ≡ faulty f
  unfolding read_lines
  line_bad f e = rw (e, read_lines)

  -- the same of how many lines are taken
  pub taken_on : (h : Given) → line_step g l ≡ on h → lines_taken g (l ∷ ls) ≡ suc (lines_taken h ls)
  unfolding lines_taken
  taken_on h e = rw (e, lines_taken)

  pub taken_over : (b : List ℕ) → line_step g l ≡ over b → lines_taken g (l ∷ ls) ≡ 1
  unfolding lines_taken
  taken_over b e = rw (e, lines_taken)

  pub taken_bad : (f : Fault) → line_step g l ≡ bad f → lines_taken g (l ∷ ls) ≡ 0
  unfolding lines_taken
  taken_bad f e = rw (e, lines_taken)

pub lines_none : (g : Given) (t : List ℕ) (i : ℕ) → length t ≤ i → read_lines g (lines_of (drop i t)) ≡ faulty End
unfolding read_lines lines_of
lines_none g t i h = rw (drop_of_length-le t h)

pub taken_none : (g : Given) (t : List ℕ) (i : ℕ) → length t ≤ i → lines_taken g (lines_of (drop i t)) ≡ 0
unfolding lines_taken lines_of
taken_none g t i h = rw (drop_of_length-le t h)

pub more_none : (b t : List ℕ) (i : ℕ) → length t ≤ i → nothing_more b (lines_of (drop i t)) ≡ gives b
unfolding nothing_more lines_of
more_none b t i h = rw (drop_of_length-le t h)

pub more_some : (b t : List ℕ) (i : ℕ) → i < length t → nothing_more b (lines_of (drop i t)) ≡ faulty End
unfolding nothing_more
more_some b t i h = rw (lines_at t i h)
