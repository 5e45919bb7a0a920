-- A refusal is not a pass, and a pass says what was found.
use mathlib.Core.Path.{◌≡◌, ap}
use mathlib.Core.Bool.{Bool, true, false, false≢true}
use Rattle.words.specs.Names.{Refusal}
use Rattle.words.specs.Try.{Try, Err, Ok}

unfoldable pub is_ok : {A : Type 0} → Try A → Bool
is_ok (Err r) = false
is_ok (Ok a) = true

pub not_no : {A : Type 0} (P : Type 0) (r : Refusal) (a : A) → Err r ≡ Ok a → P
unfolding is_ok
not_no P r a h = absurd (false≢true (ap is_ok h))

got : {A : Type 0} → A → Try A → A
got d (Err r) = d
got d (Ok a) = a

pub ok_eq : {A : Type 0} (a b : A) → (let x : Try A = Ok a in x) ≡ Ok b → a ≡ b
unfolding got
ok_eq a b h = ap (got a) h
