-- Demand 1 as statements on a call's outcome.
use Rattle.std.specs.Prelude.{◌≡◌, ℕ, ◌^◌, ◌<◌, ℤ, pos}
use Rattle.words.specs.Refusals.{number}
use Rattle.kernel.specs.Names.{Refusal}

-- "ends with one listed answer": "Success is 0, or a non-negative count", in a signed word; else one of the numbers −1 to −19
pub data Listed (z : ℤ) : Type 0 where
  success : (n : ℕ) → z ≡ pos n → n < 2 ^ 31 → Listed z
  refusal : (r : Refusal) → z ≡ number r → Listed z
