-- The lines of a text as a loop finds them, and the bytes that digits spell.
use mathlib.Core.Bool.{Bool, true, false}
use mathlib.Core.List.{List, [], ◌∷◌}
use mathlib.Core.Path.{◌≡◌, refl}
use Prim.Native.Nat.{ℕ, zero, suc, ◌+◌, ◌*◌, ◌/◌, ◌<◌, ◌≤◌}
use native.Mathlib.Omega.{arith}
use lib.Dec.{eqb}
use lib.ListN.{get_or, length, take, drop}
use lib.Seq.{drop-cons}
use borrow.Author.Tests.{eq-eqb, ltb-true}
use Rattle.words.proofs.Tests.{and_left, and_right}
use Rattle.words.specs.Tests.{choose}
use Rattle.digits.specs.Digits.{all_digits, digit_of}
use Rattle.intel_hex.specs.Pairs.{all_hex, pairs}
use Rattle.intel_hex.specs.Lines.{line_length, lines_of, longer}
use Rattle.intel_hex.specs.Marks.{line_feed}

-- ---- the first line and the rest
pub lines_next : (x : ℕ) (xs : List ℕ) → lines_of (x ∷ xs) ≡ take (line_length (x ∷ xs)) (x ∷ xs) ∷ lines_of (drop (line_length (x ∷ xs)) (x ∷ xs))
unfolding lines_of longer line_length
lines_next x [] = go (eqb x 10) refl
  where
    go : (z : Bool) → eqb x 10 ≡ z → lines_of (x ∷ []) ≡ take (line_length (x ∷ [])) (x ∷ []) ∷ lines_of (drop (line_length (x ∷ [])) (x ∷ []))
    go true e = rw e
    go false e = rw e
lines_next x (y ∷ ys) = go (lines_next y ys) (eqb x 10) refl
  where
    go : lines_of (y ∷ ys) ≡ take (line_length (y ∷ ys)) (y ∷ ys) ∷ lines_of (drop (line_length (y ∷ ys)) (y ∷ ys)) → (z : Bool) → eqb x 10 ≡ z
        → lines_of (x ∷ y ∷ ys) ≡ take (line_length (x ∷ y ∷ ys)) (x ∷ y ∷ ys) ∷ lines_of (drop (line_length (x ∷ y ∷ ys)) (x ∷ y ∷ ys))
    go h true e = rw e
    go h false e = rw (e, h)

pub lines_at : (t : List ℕ) (i : ℕ) → i < length t → lines_of (drop i t) ≡ take (line_length (drop i t)) (drop i t) ∷ lines_of (drop (line_length (drop i t)) (drop i t))
lines_at t i h = rw (drop-cons t i 0 h) (lines_next (get_or t i 0) (drop (suc i) t))

line_some : (x : ℕ) (xs : List ℕ) → 1 ≤ line_length (x ∷ xs)
unfolding line_length
line_some x xs = go (eqb x 10)
  where
    go : (z : Bool) → 1 ≤ choose z 1 (suc (line_length xs))
    go true = omega arith
    go false = omega arith

pub line_ahead : (t : List ℕ) (i : ℕ) → i < length t → 1 ≤ line_length (drop i t)
line_ahead t i h = rw (drop-cons t i 0 h) (line_some (get_or t i 0) (drop (suc i) t))

-- ---- digits
pub hex_at : (t : List ℕ) (i : ℕ) → all_hex t ≡ true → i < length t → digit_of (get_or t i 0) < 16
unfolding all_digits
hex_at [] i e h = absurd (omega arith)
hex_at (x ∷ xs) zero e h = ltb-true _ _ (and_left _ _ e)
hex_at (x ∷ xs) (suc i) e h = hex_at xs i (and_right _ _ e) (omega arith)

-- ---- bytes as pairs
pub length_pairs : (l : List ℕ) → length (pairs l) ≡ length l / 2
unfolding pairs
length_pairs [] = refl
length_pairs (a ∷ []) = refl
length_pairs (a ∷ b ∷ bs) = omega (arith, length_pairs bs)

pub pairs_at : (l : List ℕ) (k : ℕ) → 2 * k + 1 < length l → get_or (pairs l) k 0 ≡ 16 * digit_of (get_or l (2 * k) 0) + digit_of (get_or l (2 * k + 1) 0)
unfolding pairs
pairs_at [] k h = absurd (omega arith)
pairs_at (a ∷ []) k h = absurd (omega arith)
pairs_at (a ∷ b ∷ bs) zero h = refl
pairs_at (a ∷ b ∷ bs) (suc k) h =
    let e : 2 * suc k ≡ suc (suc (2 * k)) = omega arith in
    let f : suc (suc (2 * k)) + 1 ≡ suc (suc (2 * k + 1)) = omega arith in
    rw (e, f) (pairs_at bs k (omega arith))

-- where a line feed stands the line ends
pub line_feed_lem : (t : List ℕ) (i : ℕ) → i < length t → get_or t i 0 ≡ line_feed → i + line_length (drop i t) ≡ i + 1
unfolding line_length
line_feed_lem t i h e = rw (drop-cons t i 0 h, eq-eqb _ _ e)
