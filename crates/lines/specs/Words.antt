-- The words of a line, from the left: the longest runs of bytes that are neither spaces nor tabs.
use Rattle.std.specs.Prelude.{Bool, false, List, [], ◌∷◌, ℕ}
use Rattle.words.specs.Tests.{choose}
use Rattle.lines.specs.Spans.{blank, solid}

-- a word that ends before these bytes goes on in them
unfoldable pub goes_on : List ℕ → Bool
goes_on [] = false
goes_on (b ∷ bs) = solid b

-- the first word with a byte more in front; the case of no words does not come up where it is asked for
unfoldable pub grown : ℕ → List (List ℕ) → List (List ℕ)
grown b [] = []
grown b (w ∷ ws) = (b ∷ w) ∷ ws

-- a byte that is no blank belongs to the word behind it, or is a word's last
unfoldable pub words_of : List ℕ → List (List ℕ)
words_of [] = []
words_of (b ∷ bs) =
    choose (blank b) (words_of bs)
    (choose (goes_on bs) (grown b (words_of bs)) ((b ∷ []) ∷ words_of bs))
