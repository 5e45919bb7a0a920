-- `reading::notes::all_free` meets its contract: each turn adds one free slot, and past the last slot nothing stands.
use mathlib.Core.Bool.{true}
use mathlib.Core.Path.{◌≡◌}
use Rattle.reading.proofs.Free.{free_after}
use Rattle.words.specs.Tests.{all_below}
use Rattle.reading.proofs.notes.all_free.Given as goal

abbrev pub invariant-loop-i : goal.invariant-loop-i
invariant-loop-i l = all_below l.i (free_after l.s l.k) ≡ true
