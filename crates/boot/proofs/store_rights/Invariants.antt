-- `boot::store_rights` meets its contract. The loop's invariant: the first e roots are entered.
use mathlib.Core.Path.{◌≡◌}
use lib.ListN.{length}
use Rattle.words.specs.Sizes.{state_length}
use Rattle.boot.specs.Stages.{with_roots}
use Rattle.boot.proofs.store_rights.Given as goal

abbrev pub invariant-loop-e : goal.invariant-loop-e
invariant-loop-e l = (l.s ≡ with_roots l.e l.initial.s) × (length l.s ≡ state_length)
