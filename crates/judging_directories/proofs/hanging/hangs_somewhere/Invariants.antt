-- `judging_directories::hanging::hangs_somewhere` meets its contract: no position passed and no directory passed holds this one, and the first one that does ends the search.
use mathlib.Core.Path.{◌≡◌}
use mathlib.Core.Bool.{false}
use Prim.Native.Nat.{◌-◌, ◌≤◌}
use Rattle.words.specs.Sizes.{slot_count}
use Rattle.words.specs.Tests.{any_below}
use Rattle.judging_directories.proofs.Search.{this_at, this_in}
use Rattle.judging_directories.proofs.hanging.hangs_somewhere.Given as goal

abbrev pub invariant-loop-i : goal.invariant-loop-i
invariant-loop-i l = (l.i ≤ l.positions) × (l.found ≡ false) × (any_below l.i (this_at l.s l.d l.k) ≡ false)

abbrev pub decreases-loop-i : goal.decreases-loop-i
decreases-loop-i l = l.positions - l.i

abbrev pub invariant-search : goal.invariant-search
invariant-search l = (l.k ≤ slot_count) × (l.found ≡ false) × (any_below l.k (this_in l.s l.d) ≡ false)

abbrev pub decreases-search : goal.decreases-search
decreases-search l = slot_count - l.k
