-- `judging_directories::hanging::has_child_directory` meets its contract: no position passed holds a child, and the first one that does ends the search.
use mathlib.Core.Path.{◌≡◌}
use mathlib.Core.Bool.{false}
use Prim.Native.Nat.{◌-◌, ◌≤◌}
use Rattle.words.specs.Tests.{any_below}
use Rattle.judging_directories.proofs.Search.{child_in}
use Rattle.judging_directories.proofs.hanging.has_child_directory.Given as goal

abbrev pub invariant-search : goal.invariant-search
invariant-search l = (l.i ≤ l.positions) × (l.found ≡ false) × (any_below l.i (child_in l.part) ≡ false)

abbrev pub decreases-search : goal.decreases-search
decreases-search l = l.positions - l.i
