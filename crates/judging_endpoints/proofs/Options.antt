-- The options that do not block are 2 and 3.
use mathlib.Core.Bool.{Bool, false, true}
use mathlib.Core.Path.{refl, ◌≡◌}
use Prim.Native.Nat.{ℕ, ◌≤◌}
use native.Mathlib.Omega.{arith}
use lib.Dec.{eqb}
use borrow.Author.Tests.{eqb-true}
use Rattle.words.specs.Tests.{◌or◌}

pub option_few : (o : ℕ) → (eqb o 2 or eqb o 3) ≡ true → o ≤ 3
unfolding ◌or◌
option_few o = go (eqb o 2) refl
  where
    go : (b : Bool) → eqb o 2 ≡ b → (b or eqb o 3) ≡ true → o ≤ 3
    go true e h = omega (arith, eqb-true o 2 e)
    go false e h = omega (arith, eqb-true o 3 h)
