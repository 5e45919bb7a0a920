-- `rows::say_row` is safe: the place that is next is one of four.
use Prim.Native.Nat.{◌≤◌}
use Rattle.rows.proofs.say_row.Given as goal

abbrev pub invariant-loop-byte : goal.invariant-loop-byte
invariant-loop-byte g l = l.place ≤ 3
