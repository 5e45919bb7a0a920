-- The lines of a text, each with its end.
use Rattle.std.specs.Prelude.{Bool, List, [], ◌∷◌, ℕ, suc, ◌-◌, ◌%◌, eqb, get_or, length, take, drop}
use Rattle.words.specs.Tests.{◌&◌, choose}
use Rattle.intel_hex.specs.Marks.{carriage_return, colon, line_feed}
use Rattle.intel_hex.specs.Pairs.{all_hex, pairs}
use Rattle.intel_hex.specs.Records.{whole}

-- c before what the first line has
unfoldable pub longer : ℕ → List (List ℕ) → List (List ℕ)
longer c [] = (c ∷ []) ∷ []
longer c (l ∷ ls) = (c ∷ l) ∷ ls

-- a line goes up to its line feed and includes it; the last one may lack it
unfoldable pub lines_of : List ℕ → List (List ℕ)
lines_of [] = []
lines_of (c ∷ cs) = choose (eqb c line_feed) ((c ∷ []) ∷ lines_of cs) (longer c (lines_of cs))

-- how long the first line is, its line feed included
unfoldable pub line_length : List ℕ → ℕ
line_length [] = 0
line_length (c ∷ cs) = choose (eqb c line_feed) 1 (suc (line_length cs))

abbrev pub last_of : List ℕ → ℕ
last_of l = get_or l (length l - 1) 0

abbrev pub shorter : List ℕ → List ℕ
shorter l = take (length l - 1) l

-- "CR LF": a carriage return before the line feed belongs to the line's end
unfoldable pub unreturned : List ℕ → List ℕ
unreturned l = choose (eqb (last_of l) carriage_return) (shorter l) l

unfoldable pub body_of : List ℕ → List ℕ
body_of l = unreturned (shorter l)

-- a colon, and digits in pairs
unfoldable pub spells : List ℕ → Bool
spells l = eqb (get_or l 0 0) colon & all_hex (drop 1 l) & eqb (length (drop 1 l) % 2) 0

-- the record that a body spells
abbrev pub spelled_by : List ℕ → List ℕ
spelled_by l = pairs (drop 1 l)

-- "−30 character, line end, length or type"
unfoldable pub readable : List ℕ → Bool
readable l = eqb (last_of l) line_feed & spells (body_of l) & whole (spelled_by (body_of l))
