-- Lists of which each element has a property; lists of bytes.
use Rattle.std.specs.Prelude.{List, [], ◌∷◌, ℕ, ◌<◌}

abbrev pub Every : (ℕ → Type 0) → List ℕ → Type 0
Every P [] = Unit {0}
Every P (x ∷ xs) = P x × Every P xs

abbrev pub AllBytes : List ℕ → Type 0
AllBytes bs = Every (λ b. b < 256) bs
