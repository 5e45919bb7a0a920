-- `judging_deletions::users::has_users` meets its contract: no slot passed holds a user, and the first one that does ends the search.
use mathlib.Core.Path.{◌≡◌}
use mathlib.Core.Bool.{false}
use Prim.Native.Nat.{◌-◌, ◌≤◌}
use Rattle.words.specs.Sizes.{slot_count}
use Rattle.words.specs.Tests.{any_below}
use Rattle.judging_deletions.proofs.UserSearch.{user_at}
use Rattle.judging_deletions.proofs.users.has_users.Given as goal

abbrev pub invariant-search : goal.invariant-search
invariant-search l = (l.k ≤ slot_count) × (l.found ≡ false) × (any_below l.k (user_at l.s l.o) ≡ false)

abbrev pub decreases-search : goal.decreases-search
decreases-search l = slot_count - l.k
