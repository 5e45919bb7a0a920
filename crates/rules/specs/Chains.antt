-- Where a place's chain goes on, as a number: 0 blank, 1 a root, p + 2 under the place of number p.
use Rattle.std.specs.Prelude.{◌+◌, ℕ}
use Rattle.state.specs.State.{State, place_numbered}
use Rattle.rules.specs.Names.{None, Some, Origin, Place}

abbrev pub origin_code : Origin → ℕ
origin_code None = 1
origin_code (Some p) = p + 2

abbrev pub code_of : Place → ℕ
code_of None = 0
code_of (Some c) = origin_code c.origin

unfoldable pub codes : State → ℕ → ℕ
codes st x = code_of (place_numbered st x)
