-- A property of each element is kept by joining and cutting.
use mathlib.Core.List.{List, [], ◌∷◌, ◌++◌}
use Prim.Native.Nat.{ℕ, zero, suc}
use lib.ListN.{get_or, take, drop}
use Rattle.intel_hex.specs.Bytes.{Every}

module _ (P : ℕ → Type 0) where
  pub every_join : (xs ys : List ℕ) → Every P xs → Every P ys → Every P (xs ++ ys)
  every_join [] ys h k = k
  every_join (x ∷ xs) ys h k = (h.0, every_join xs ys h.1 k)

  pub every_take : (n : ℕ) (xs : List ℕ) → Every P xs → Every P (take n xs)
  every_take zero xs h = tt
  every_take (suc n) [] h = tt
  every_take (suc n) (x ∷ xs) h = (h.0, every_take n xs h.1)

  pub every_drop : (n : ℕ) (xs : List ℕ) → Every P xs → Every P (drop n xs)
  every_drop zero xs h = h
  every_drop (suc n) [] h = tt
  every_drop (suc n) (x ∷ xs) h = every_drop n xs h.1

  -- an element, or the 0 that stands for none
  pub every_at : P 0 → (xs : List ℕ) → Every P xs → (i : ℕ) → P (get_or xs i 0)
  every_at z [] h i = z
  every_at z (x ∷ xs) h zero = h.0
  every_at z (x ∷ xs) h (suc i) = every_at z xs h.1 i
