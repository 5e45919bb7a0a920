-- `boot::store_pages` meets its contract. The loop's invariant: the first i pages are stored.
use mathlib.Core.Path.{◌≡◌}
use lib.ListN.{length}
use Rattle.words.specs.Sizes.{state_length}
use Rattle.boot.specs.Stages.{with_pages}
use Rattle.boot.proofs.store_pages.Given as goal

abbrev pub invariant-loop-i : goal.invariant-loop-i
invariant-loop-i l = (l.s ≡ with_pages l.i l.initial.s) × (length l.s ≡ state_length)
