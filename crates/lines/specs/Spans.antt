-- Where the words of a line stand: "Words of a line stand apart by spaces or tabs."
use Rattle.std.specs.Prelude.{Bool, not, List, ℕ, ◌+◌, min, eqb, drop, length}
use Rattle.std.specs.List.{prefix_len}
use Rattle.words.specs.Tests.{◌or◌}
use Rattle.lines.specs.Names.{Span}

-- a space or a tab
abbrev pub blank : ℕ → Bool
blank b = eqb b 32 or eqb b 9

-- a byte of a word
abbrev pub solid : ℕ → Bool
solid b = not (blank b)

-- the first index at or after `at` whose byte does not pass, or the length
unfoldable pub past_run : (ℕ → Bool) → List ℕ → ℕ → ℕ
past_run p line at = min at (length line) + prefix_len p (drop at line)

-- past the blanks, and from there past the bytes of the word
abbrev pub word_after : List ℕ → ℕ → Span
word_after line at = record { from = past_run blank line at; to = past_run solid line (past_run blank line at) }
