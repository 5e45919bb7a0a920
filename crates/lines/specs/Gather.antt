-- A line that is gathered byte by byte: "more than 1,024 bytes in the line" is a fault, so no more are kept.
use Rattle.std.specs.Prelude.{List, ℕ, ◌+◌, Option, None, Some, eqb, ltb, set}
use Rattle.words.specs.Tests.{choose}

-- a line feed ends the line, and any other byte belongs to it
abbrev pub gathered : ℕ → ℕ → Option ℕ
gathered n byte = choose (eqb byte 10) None (Some (choose (ltb n 1024) (n + 1) 1025))

abbrev pub stored : List ℕ → ℕ → ℕ → List ℕ
stored line n byte = choose (eqb byte 10) line (choose (ltb n 1024) (set line n byte) line)
