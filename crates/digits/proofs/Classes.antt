-- A character's class: inside a range of characters, below it, above it.
use mathlib.Core.Bool.{Bool, true, false}
use mathlib.Core.Path.{◌≡◌, refl}
use Prim.Native.Nat.{ℕ, ◌<◌, ◌≤◌}
use lib.Dec.{leb}
use borrow.Author.Tests.{le-leb, lt-leb}
use Rattle.words.specs.Tests.{◌&◌}
use Rattle.digits.specs.Digits.{within}

pub inside : (low high b : ℕ) → low ≤ b → b ≤ high → within low high b ≡ true
unfolding within ◌&◌
inside low high b l h = rw (le-leb low b l, le-leb b high h)

pub below : (low high b : ℕ) → b < low → within low high b ≡ false
unfolding within ◌&◌
below low high b h = rw (lt-leb low b h)

pub above : (low high b : ℕ) → high < b → within low high b ≡ false
unfolding within ◌&◌
above low high b h = rw (lt-leb b high h) (last (leb low b))
  where
    last : (z : Bool) → (z & false) ≡ false
    last true = refl
    last false = refl
