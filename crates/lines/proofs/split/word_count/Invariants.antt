-- `lines::split::word_count` meets its contract: the words found so far, and those that stand from `at` on.
use mathlib.Core.Path.{◌≡◌}
use Prim.Native.Nat.{◌+◌, ◌-◌, ◌≤◌}
use lib.ListN.{drop, length}
use Rattle.lines.specs.Words.{words_of}
use Rattle.lines.proofs.split.word_count.Given as goal

abbrev pub invariant-loop-at : goal.invariant-loop-at
invariant-loop-at l = (l.at ≤ length l.line) × (l.n ≤ l.at) × (length (words_of l.line) ≡ l.n + length (words_of (drop l.at l.line)))

abbrev pub decreases-loop-at : goal.decreases-loop-at
decreases-loop-at l = length l.line - l.at
