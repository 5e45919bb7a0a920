-- `lines::numbers::digits_in` meets its contract: what is left to read, after the value so far, decides the whole.
use mathlib.Core.Path.{◌≡◌}
use Prim.Native.Nat.{◌≤◌}
use lib.ListN.{drop}
use Rattle.lines.specs.Numbers.{digits_of, number_in}
use Rattle.lines.proofs.numbers.digits_in.Given as goal

abbrev pub invariant-loop-b : goal.invariant-loop-b
invariant-loop-b l = (l.v ≤ 4294967296) × (number_in l.base l.text ≡ digits_of l.base l.v (drop l.b-index l.text))
