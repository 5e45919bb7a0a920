-- How a word's letters tell which command it is.
use mathlib.Core.Bool.{true}
use mathlib.Core.List.{List, [], ◌∷◌}
use mathlib.Core.Path.{◌≡◌, refl}
use Prim.Native.Nat.{ℕ}
use lib.ListN.{get_or, get_or-eq_default, length}
use Rattle.digits.proofs.Classes.{above, below, inside}
use Rattle.std.proofs.lemmas.Slice.Eq.{bytes_eq-Decides, text_from_reads}
use Rattle.std.specs.Str.{bytes_eq}

-- a word of four letters, read letter by letter
module _ (w : List ℕ) (p q r s : ℕ) where
  pub reads : bytes_eq w (p ∷ q ∷ r ∷ s ∷ []) ≡ true → (length w ≡ 4) × (get_or w 0 0 ≡ p) × (get_or w 1 0 ≡ q) × (get_or w 2 0 ≡ r) × (get_or w 3 0 ≡ s)
  reads e = rw ((bytes_eq-Decides w (p ∷ q ∷ r ∷ s ∷ [])).0 e) (refl, refl, refl, refl, refl)

  pub read : length w ≡ 4 → get_or w 0 0 ≡ p → get_or w 1 0 ≡ q → get_or w 2 0 ≡ r → get_or w 3 0 ≡ s → bytes_eq w (p ∷ q ∷ r ∷ s ∷ []) ≡ true
  read n a b c d = (bytes_eq-Decides w (p ∷ q ∷ r ∷ s ∷ [])).1 (text_from_reads w (p ∷ q ∷ r ∷ s ∷ []) n (a, (b, (c, (d, tt)))))

pub ruleset spelling = (reads, read, above, below, inside, get_or-eq_default)
