-- What reading answers, from what the lines give.
use mathlib.Core.List.{List}
use mathlib.Core.Path.{◌≡◌}
use Prim.Native.Nat.{ℕ}
use lib.ListN.{length}
use borrow.Author.Tests.{eq-eqb}
use Rattle.words.specs.Sizes.{state_length}
use Rattle.intel_hex.specs.Lines.{lines_of}
use Rattle.intel_hex.specs.Outcomes.{read_outcome, stored}
use Rattle.intel_hex.specs.Reading.{Result, read_lines, read_text, start}

pub outcome_of : (t d : List ℕ) (x : Result) → length d ≡ state_length → x ≡ read_lines (start state_length) (lines_of t) → read_outcome t d ≡ stored d x
unfolding read_outcome read_text
outcome_of t d x e q = rw (eq-eqb _ _ e, ← q)
