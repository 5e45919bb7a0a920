-- The page flags of a position: a word in the code, a byte in the layout.
use Rattle.std.specs.Prelude.{ℕ}
use Rattle.writing.specs.Names.{Position, Empty, Page, Child}

abbrev pub position_flags : Position → ℕ
position_flags Empty = 0
position_flags (Page f x) = x
position_flags (Child o x) = x
