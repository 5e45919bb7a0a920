-- Sums of counts: at most so much a term.
use Prim.Native.Nat.{◌*◌, ◌<◌, suc, zero, ℕ, ◌≤◌}
use native.Mathlib.Nat.{le_step, lt-suc_self, mul-suc}
use native.Mathlib.Omega.{arith}
use Rattle.words.specs.Tests.{sum_below}

pub sum_most : (m n : ℕ) (f : ℕ → ℕ) → ((x : ℕ) → x < n → f x ≤ m) → sum_below n f ≤ m * n
unfolding sum_below
sum_most m zero f h = omega arith
sum_most m (suc n) f h = omega (arith, sum_most m n f (λ x l. h x (le_step l)), h n (lt-suc_self n), mul-suc m n)
