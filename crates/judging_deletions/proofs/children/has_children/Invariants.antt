-- `judging_deletions::children::has_children` meets its contract: no entry passed and no table passed holds a child, and the first one that does ends the search.
use mathlib.Core.Path.{◌≡◌}
use mathlib.Core.Bool.{false}
use Prim.Native.Nat.{◌-◌, ◌≤◌}
use Rattle.words.specs.Sizes.{slot_count}
use Rattle.words.specs.Tests.{any_below}
use Rattle.judging_deletions.proofs.ChildSearch.{child_at, child_in}
use Rattle.judging_deletions.proofs.children.has_children.Given as goal

abbrev pub invariant-loop-e : goal.invariant-loop-e
invariant-loop-e l = (l.e ≤ l.entries) × (l.found ≡ false) × (any_below l.e (child_at l.s l.n l.k) ≡ false)

abbrev pub decreases-loop-e : goal.decreases-loop-e
decreases-loop-e l = l.entries - l.e

abbrev pub invariant-search : goal.invariant-search
invariant-search l = (l.k ≤ slot_count) × (l.found ≡ false) × (any_below l.k (child_in l.s l.n) ≡ false)

abbrev pub decreases-search : goal.decreases-search
decreases-search l = slot_count - l.k
