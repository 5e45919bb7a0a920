-- A judgement that is not a refusal gives P, and one that is does not say −19: the rules by which the text of a call is walked, a line at a time.
use mathlib.Core.Bool.{Bool, false, true}
use mathlib.Core.Path.{refl, subst, ◌≡◌}
use lib.Dec.{eqb}
use lib.IntN.{negsuc, pos, ℤ}
use Rattle.words.proofs.Judged.{not_no, ok_eq}
use Rattle.words.specs.Refusals.{number}
use Rattle.words.specs.Try.{◌>>◌, ◌>>=◌, Try, need, Err, Ok}
use Rattle.passed.specs.Names.{Refusal}

-- −19, which is said of bytes and by no judgement on a state
abbrev pub is_bad_state : ℤ → Bool
is_bad_state (pos n) = false
is_bad_state (negsuc n) = eqb n 18

abbrev pub Sayable : {A : Type 0} → Try A → Type 0
Sayable (Err r) = is_bad_state (number r) ≡ false
Sayable (Ok a) = Unit {0}

pub record Given {A : Type 0} (m : Try A) (P : A → Type 0) : Type 0 where
  pub of : (x : A) → m ≡ Ok x → P x
  pub sayable : Sayable m

pub refused : {A : Type 0} {P : A → Type 0} {r : Refusal} → is_bad_state (number r) ≡ false → Given (Err r) P
refused {P = P} {r = r} s = record { of = λ x e. not_no (P x) r x e; sayable = s }

pub given : {A : Type 0} {P : A → Type 0} {a : A} → P a → Given (Ok a) P
given {P = P} {a = a} h = record { of = λ x e. subst P (ok_eq a x e) h; sayable = tt }

pub bind : {A B : Type 0} {Q : A → Type 0} {P : B → Type 0} {m : Try A} {k : A → Try B} → Given m Q → ((a : A) → Q a → Given (k a) P) → Given (m >>= k) P
unfolding ◌>>=◌
bind {m = Err r} h f = refused h.sayable
bind {m = Ok a} h f = f a (h.of a refl)

pub seq : {A B : Type 0} {Q : A → Type 0} {P : B → Type 0} {m : Try A} {k : Try B} → Given m Q → ((a : A) → Q a → Given k P) → Given (m >> k) P
unfolding ◌>>◌
seq {m = Err r} h f = refused h.sayable
seq {m = Ok a} h f = f a (h.of a refl)

-- a test, and what follows it
pub test : {B : Type 0} {P : B → Type 0} {b : Bool} {k : Try B} (r : Refusal) → is_bad_state (number r) ≡ false → (b ≡ true → Given k P) → Given (need b r >> k) P
unfolding need ◌>>◌
test {b = true} r s f = f refl
test {b = false} r s f = refused s

-- what follows from what is given
pub then : {A : Type 0} {Q P : A → Type 0} {m : Try A} → Given m Q → ((a : A) → Q a → P a) → Given m P
then h f = record { of = λ x e. f x (h.of x e); sayable = h.sayable }

-- a test alone
pub asked : (b : Bool) (r : Refusal) → is_bad_state (number r) ≡ false → Given (need b r) (λ x. Unit {0})
unfolding need
asked true r s = given tt
asked false r s = refused s
