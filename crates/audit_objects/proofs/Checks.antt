-- Laws that more than one part of the check needs: what the layout shows, words of bytes, and an object's kind by its tag.
use mathlib.Core.Bool.{true}
use mathlib.Core.List.{List}
use mathlib.Core.Path.{refl, ◌≡◌}
use Prim.Native.Nat.{◌+◌, ◌<◌, ◌^◌, ℕ}
use native.Mathlib.Omega.{arith}
use lib.Dec.{eqb}
use lib.ListN.{get_or}
use borrow.Author.Tests.{eqb-true}
use Rattle.rules.specs.WellFormed.{apart, object_no}
use Rattle.state.specs.Bytes.{tag_of}
use Rattle.state.specs.Layout.{Laid}
use Rattle.state.specs.Read.{word_at}
use Rattle.state.specs.State.{Object, State, body, directory, endpoint, free, process, table}
use Rattle.words.proofs.Tests.{and_left, and_right}

-- ---- "objects lie in kernel memory and don't overlap", as facts
pub apart_laid : (st : State) → apart st ≡ true → Laid st
unfolding apart
apart_laid st h = record { room = eqb-true _ _ (and_left _ _ h); laid = and_right _ _ h }

-- ---- four bytes make a number below 2^32
pub word_small : (b : List ℕ) (at : ℕ) → ((i : ℕ) → get_or b i 0 < 256) → word_at b at < 2 ^ 32
unfolding word_at
word_small b at f = omega (arith, f at, f (at + 1), f (at + 2), f (at + 3))

-- ---- the number of the kind of right that names an object, by the object's tag
pub table_number : (o : Object) → eqb (object_no o) 1 ≡ eqb (tag_of o) 2
table_number free = refl
table_number (body h) = refl
table_number (table ps) = refl
table_number (directory g es) = refl
table_number (process t d) = refl
table_number (endpoint c b) = refl

pub directory_number : (o : Object) → eqb (object_no o) 2 ≡ eqb (tag_of o) 3
directory_number free = refl
directory_number (body h) = refl
directory_number (table ps) = refl
directory_number (directory g es) = refl
directory_number (process t d) = refl
directory_number (endpoint c b) = refl

pub process_number : (o : Object) → eqb (object_no o) 4 ≡ eqb (tag_of o) 4
process_number free = refl
process_number (body h) = refl
process_number (table ps) = refl
process_number (directory g es) = refl
process_number (process t d) = refl
process_number (endpoint c b) = refl

pub endpoint_number : (o : Object) → eqb (object_no o) 5 ≡ eqb (tag_of o) 5
endpoint_number free = refl
endpoint_number (body h) = refl
endpoint_number (table ps) = refl
endpoint_number (directory g es) = refl
endpoint_number (process t d) = refl
endpoint_number (endpoint c b) = refl
