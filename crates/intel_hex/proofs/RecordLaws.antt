-- The parts of a record that was made are what it was made of.
use mathlib.Core.Bool.{true}
use mathlib.Core.List.{List, [], ◌∷◌, ◌++◌}
use mathlib.Core.Path.{◌≡◌, refl}
use Prim.Native.Nat.{ℕ, ◌+◌, ◌-◌, ◌%◌, ◌<◌}
use native.Mathlib.Omega.{arith}
use lib.ListN.{get_or, length, take, length-append}
use native.Mathlib.Numerals.{add-one}
use lib.Seq.{take_at, take-suc}
use borrow.Author.Tests.{eq-eqb}
use Rattle.words.specs.Tests.{◌&◌}
use Rattle.intel_hex.specs.Bytes.{AllBytes}
use Rattle.intel_hex.specs.Marks.{frame_length, half}
use Rattle.intel_hex.specs.Records.{address_in, data_in, fields, length_fits, record_of, sum_byte, sum_of, type_in, whole}
use Rattle.intel_hex.proofs.EveryLaws.{every_join}

sum_append : (xs : List ℕ) (x : ℕ) → sum_of (xs ++ (x ∷ [])) ≡ sum_of xs + x
unfolding sum_of
sum_append [] x = omega arith
sum_append (y ∷ xs) x = omega (arith, sum_append xs x)

pub sum_more : (r : List ℕ) (k : ℕ) → k < length r → sum_of (take (k + 1) r) ≡ sum_of (take k r) + get_or r k 0
sum_more r k h = rw (add-one k, take-suc r k 0 h) (sum_append (take k r) (get_or r k 0))

balanced : (x : ℕ) → (x + (256 - x % 256) % 256) % 256 ≡ 0
balanced x = omega arith

module _ (t a : ℕ) (bs : List ℕ) where
  pub sum_record : sum_of (record_of t a bs) % 256 ≡ 0
  unfolding record_of
  sum_record = rw (sum_append (fields t a bs) (sum_byte (fields t a bs))) (balanced (sum_of (fields t a bs)))

  pub type_record : type_in (record_of t a bs) ≡ t
  unfolding record_of
  type_record = refl

  pub address_record : a < half → address_in (record_of t a bs) ≡ a
  unfolding record_of
  address_record h = omega arith

  pub data_record : data_in (record_of t a bs) ≡ bs
  unfolding record_of data_in
  data_record = take_at bs (sum_byte (fields t a bs) ∷ []) (length bs) refl

  pub whole_record : length_fits t (length bs) ≡ true → whole (record_of t a bs) ≡ true
  unfolding record_of whole ◌&◌
  whole_record f = rw (eq-eqb (length (record_of t a bs)) (length bs + frame_length) (omega (arith, length-append bs (sum_byte (fields t a bs) ∷ []))), f)

pub bytes_record : (t a : ℕ) (bs : List ℕ) → t < 256 → a < half → length bs < 256 → AllBytes bs → AllBytes (record_of t a bs)
unfolding record_of
bytes_record t a bs k l n h = every_join (λ b. b < 256) (fields t a bs) (sum_byte (fields t a bs) ∷ []) (n, (omega arith, (omega arith, (k, h)))) (omega arith, tt)
