-- Words put in front of a lent list one by one.
use Rattle.std.proofs.Common.{◌≡◌, ℕ, ◌≤◌, List, [], ◌∷◌, length, drop, set, refl, le_of_suc-le-suc, not-suc-le-zero}

pub two_in_front : (l : List ℕ) (a b : ℕ) → 2 ≤ length l → set (set l 0 a) 1 b ≡ a ∷ b ∷ drop 2 l
two_in_front [] a b h = absurd (not-suc-le-zero h)
two_in_front (x ∷ []) a b h = absurd (not-suc-le-zero (le_of_suc-le-suc h))
two_in_front (x ∷ y ∷ l) a b h = refl

pub three_in_front : (l : List ℕ) (a b c : ℕ) → 3 ≤ length l → set (set (set l 0 a) 1 b) 2 c ≡ a ∷ b ∷ c ∷ drop 3 l
three_in_front [] a b c h = absurd (not-suc-le-zero h)
three_in_front (x ∷ []) a b c h = absurd (not-suc-le-zero (le_of_suc-le-suc h))
three_in_front (x ∷ y ∷ []) a b c h = absurd (not-suc-le-zero (le_of_suc-le-suc (le_of_suc-le-suc h)))
three_in_front (x ∷ y ∷ z ∷ l) a b c h = refl
