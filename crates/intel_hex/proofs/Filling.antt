-- Cells that are filled piece by piece from the first on.
use mathlib.Core.Bool.{true}
use mathlib.Core.List.{List, [], ◌∷◌, ◌++◌, append_assoc}
use mathlib.Core.Path.{◌≡◌, refl, ap, sym}
use Prim.Native.Nat.{ℕ, zero, suc, ◌+◌, ◌-◌, ◌*◌, ◌<◌}
use native.Mathlib.Omega.{arith}
use lib.ListN.{length, length-append, length-replicate, replicate, replicate-append-replicate}
use lib.Seq.{take_at, drop_at}
use borrow.Author.Tests.{eq-eqb, le-leb}
use Rattle.words.specs.Sizes.{kernel_start}
use Rattle.words.specs.Tests.{◌&◌}
use Rattle.state.specs.State.{splice}
use Rattle.intel_hex.specs.Marks.{data_type, half, state_upper}
use Rattle.intel_hex.specs.Reading.{Given, data_step, filled, full, given, is_open, on, record_step, vacant}
use Rattle.intel_hex.specs.Records.{record_of}
use Rattle.intel_hex.proofs.RecordLaws.{address_record, data_record, type_record}

-- ---- filled cells
pub length_filled : (bs : List ℕ) → length (filled bs) ≡ length bs
unfolding filled
length_filled [] = refl
length_filled (b ∷ bs) = ap suc (length_filled bs)

pub filled_append : (xs ys : List ℕ) → filled (xs ++ ys) ≡ filled xs ++ filled ys
unfolding filled
filled_append [] ys = refl
filled_append (x ∷ xs) ys = ap (λ (l : List ℕ). suc x ∷ l) (filled_append xs ys)

pub full_filled : (bs : List ℕ) → full (filled bs) ≡ true
unfolding full filled ◌&◌
full_filled [] = refl
full_filled (b ∷ bs) = rw (le-leb 1 (suc b) (omega arith)) (full_filled bs)

pub given_filled : (bs : List ℕ) → given (filled bs) ≡ bs
unfolding given filled
given_filled [] = refl
given_filled (b ∷ bs) = let e : suc b - 1 ≡ b = omega arith in rw (e, given_filled bs)

-- ---- cells of which none is given
abbrev zeros : ℕ → List ℕ
zeros n = replicate n 0

length_zeros : (n : ℕ) → length (zeros n) ≡ n
length_zeros n = length-replicate {A = ℕ} n 0

zeros_split : (m n : ℕ) → zeros (m + n) ≡ zeros m ++ zeros n
zeros_split m n = sym (replicate-append-replicate {A = ℕ} m n 0)

vacant_zeros : (n : ℕ) → vacant (zeros n) ≡ true
unfolding vacant ◌&◌
vacant_zeros zero = refl
vacant_zeros (suc n) = vacant_zeros n

-- ---- the bytes d are given, n cells are not
abbrev pub given_up_to : List ℕ → ℕ → Given
given_up_to d n = record { cells = filled d ++ zeros n; upper = state_upper }

length_upto : (d : List ℕ) (n : ℕ) → length (filled d ++ zeros n) ≡ length d + n
length_upto d n = omega (arith, length-append (filled d) (zeros n), length_filled d, length_zeros n)

-- where an address of the state lies in it
pub from_start : (a : ℕ) → half * state_upper + a - kernel_start ≡ a
from_start a = omega arith

module _ (d : List ℕ) where
  open_next : (m n : ℕ) → is_open (filled d ++ zeros (m + n)) (half * state_upper + length d) m ≡ true
  unfolding is_open ◌&◌
  open_next m n =
      rw (
        le-leb kernel_start (half * state_upper + length d) (omega arith),
        le-leb (half * state_upper + length d + m) (kernel_start + length (filled d ++ zeros (m + n))) (omega (arith, length_upto d (m + n))),
        from_start (length d),
        drop_at (filled d) (zeros (m + n)) (length d) (length_filled d),
        zeros_split m n,
        take_at (zeros m) (zeros n) m (length_zeros m),
      ) (vacant_zeros m)

  splice_next : (p : List ℕ) (n : ℕ) → splice (length d) (filled p) (filled d ++ zeros (length p + n)) ≡ filled (d ++ p) ++ zeros n
  unfolding splice
  splice_next p n =
      rw (
        take_at (filled d) (zeros (length p + n)) (length d) (length_filled d),
        zeros_split (length p) n,
        ← append_assoc (filled d) (zeros (length p)) (zeros n),
        drop_at (filled d ++ zeros (length p)) (zeros n) (length d + length (filled p)) (omega (arith, length_upto d (length p), length_filled p)),
        filled_append d p,
        append_assoc (filled d) (filled p) (zeros n),
      )

  -- a data record for the bytes behind d
  pub piece_step : (p : List ℕ) (n : ℕ) → length d < half → record_step (given_up_to d (length p + n)) (record_of data_type (length d) p) ≡ on (given_up_to (d ++ p) n)
  unfolding record_step data_step
  piece_step p n h =
      rw (eq-eqb _ _ (type_record 0 (length d) p), address_record 0 (length d) p h, data_record 0 (length d) p, open_next (length p) n, from_start (length d), splice_next p n)
