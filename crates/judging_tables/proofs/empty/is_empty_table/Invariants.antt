-- `judging_tables::empty::is_empty_table` meets its contract: every entry passed is blank, and the first one that is not ends the loop.
use mathlib.Core.Bool.{true}
use mathlib.Core.Path.{◌≡◌}
use Prim.Native.Nat.{◌-◌, ◌≤◌}
use Rattle.words.specs.Tests.{all_below}
use Rattle.judging_tables.proofs.Entries.{blank_in}
use Rattle.judging_tables.proofs.empty.is_empty_table.Given as goal

abbrev pub invariant-loop-e : goal.invariant-loop-e
invariant-loop-e l = (l.e ≤ l.entries) × (all_below l.e (blank_in l.part) ≡ true)

abbrev pub decreases-loop-e : goal.decreases-loop-e
decreases-loop-e l = l.entries - l.e
