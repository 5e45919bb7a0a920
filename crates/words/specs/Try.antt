-- Judgements: what was found, or a refusal. The rules are written with `do` over them, an argument a line.
use Rattle.std.specs.Prelude.{Bool, true, false, Result}
use Rattle.words.specs.Names.{Refusal}
pub use Rattle.std.specs.Prelude.{Ok, Err}

abbrev pub Try : Type 0 → Type 0
Try A = Result A Refusal

infixl 20 ◌>>=◌
unfoldable pub ◌>>=◌ : {A B : Type 0} → Try A → (A → Try B) → Try B
Err r >>= f = Err r
Ok a >>= f = f a

infixl 20 ◌>>◌
unfoldable pub ◌>>◌ : {A B : Type 0} → Try A → Try B → Try B
Err r >> f = Err r
Ok a >> f = f

-- a test, and the refusal where it fails
unfoldable pub need : Bool → Refusal → Try (Unit {0})
need true r = Ok tt
need false r = Err r
