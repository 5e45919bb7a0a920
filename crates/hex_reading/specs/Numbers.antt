-- The cells of the code as the rules have them: 0 where a byte has not been given, else the byte + 1.
use Rattle.std.specs.Prelude.{List, ℕ, suc, Option, None, Some, map}

abbrev pub number : Option ℕ → ℕ
number None = 0
number (Some b) = suc b

abbrev pub numbers : List (Option ℕ) → List ℕ
numbers cells = map number cells
