-- "Success is 0, or a non-negative count": an answer's count as a number.
use Rattle.std.specs.Prelude.{ℕ, ℤ, pos, negsuc}

-- a refusal, which is negative, counts nothing
abbrev pub count_of : ℤ → ℕ
count_of (pos k) = k
count_of (negsuc k) = 0
