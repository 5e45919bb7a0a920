-- The same said of the words that stand there: which of them are the encoding of what they are read as.
use Rattle.std.specs.Prelude.{Bool, false, List, ◌%◌, ◌*◌, ◌+◌, ℕ, eqb, ltb}
use Rattle.state.specs.Read.{word_at}
use Rattle.words.specs.Sizes.{slot_count}
use Rattle.words.specs.Tests.{◌&◌, all_below, choose}

-- n words of zeros from a byte on
unfoldable pub zero_words : List ℕ → ℕ → ℕ → Bool
zero_words l at n = all_below n (λ i. eqb (word_at l (at + 4 * i)) 0)

-- ---- a right: what its kind lacks is zero, and its object is a slot
unfoldable pub object_alone : (low high object : ℕ) → Bool
object_alone l h o = eqb l 0 & eqb h 0 & ltb o slot_count

unfoldable pub kind_clean : (kind low high object : ℕ) → Bool
kind_clean k l h o =
    choose (eqb k 1) (object_alone l h o)
    (choose (eqb k 2) (ltb o slot_count)
    (choose (eqb k 3) (eqb o 0)
    (choose (eqb k 4) (object_alone l h o)
    (choose (eqb k 5) (object_alone l h o)
    (choose (eqb k 6) (eqb o 0)
    false)))))

-- the mark is 0 or 1, and there is no stamp without it
unfoldable pub frost_clean : (mark stamp : ℕ) → Bool
frost_clean m s = choose (eqb m 0) (eqb s 0) (eqb m 1)

-- ---- a position: its tag is the lowest byte of its first word
unfoldable pub position_clean : (first second : ℕ) → Bool
position_clean w v =
    choose (eqb (w % 256) 1) (ltb w 65536)
    (choose (eqb (w % 256) 2) (ltb w 65536 & ltb v slot_count)
    (eqb w 0 & eqb v 0))

-- ---- a note, by its tag: a later slot, a table and a directory have an argument
unfoldable pub note_clean : ℕ → Bool
note_clean w =
    choose (eqb (w % 256) 1) (ltb w 65536)
    (choose (eqb (w % 256) 2) (ltb w 65536)
    (choose (eqb (w % 256) 3) (ltb w 65536)
    (ltb w 6)))
