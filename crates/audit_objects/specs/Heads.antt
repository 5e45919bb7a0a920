-- The slots that the parts of the check walk: all that have a note of their own, and nothing else.
use Rattle.std.specs.Prelude.{List, ℕ, ◌++◌, length}
use Rattle.audit_entries.specs.Heads.{Heads}
use Rattle.words.specs.Sizes.{slot_count}

-- h is the front of a list of heads, of as many numbers as it has heads
pub record AreHeads (b h : List ℕ) : Type 0 where
  pub rest : List ℕ
  pub heads : Heads b (h ++ rest) (length h) slot_count
