-- `lines::split::word` meets its contract: word k of the line is the word that many places on from `at` as turns are left.
use mathlib.Core.List.{[]}
use mathlib.Core.Path.{◌≡◌}
use Prim.Native.Nat.{◌-◌, ◌≤◌}
use lib.ListN.{drop, get_or, length}
use Rattle.lines.specs.Words.{words_of}
use Rattle.lines.proofs.split.word.Given as goal

abbrev pub invariant-loop : goal.invariant-loop
invariant-loop l = (l.at ≤ length l.line) × (l.counter ≤ l.k) × (get_or (words_of l.line) l.k [] ≡ get_or (words_of (drop l.at l.line)) (l.k - l.counter) [])
