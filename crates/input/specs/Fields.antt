-- The words of a line by where they are looked for.
use Rattle.std.specs.Prelude.{List, ℕ, ◌-◌, drop, take}
use Rattle.lines.specs.declared.spans.Span.{Span}
use Rattle.lines.specs.Spans.{word_after}

-- the bytes of a span
abbrev pub bytes_of : List ℕ → Span → List ℕ
bytes_of line s = take (s.to - s.from) (drop s.from line)

-- the first word that begins at or after `at`
abbrev pub word_at : List ℕ → ℕ → List ℕ
word_at line at = bytes_of line (word_after line at)
