-- What is read of an object whose kind is known by its tag: one value where the slot's note has that tag, another where it has not.
use Rattle.std.specs.Prelude.{List, ℕ, ◌+◌, ◌*◌, eqb, get_or}
use Rattle.words.specs.Sizes.{memory_length}
use Rattle.words.specs.Tests.{choose}

abbrev pub if_tagged : {A : Type 0} → List ℕ → ℕ → ℕ → A → A → A
if_tagged b k tag here none = choose (eqb (get_or b (memory_length + 4 * k) 0) tag) here none
