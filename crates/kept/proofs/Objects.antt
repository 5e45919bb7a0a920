-- An object by the number of the kind that names it: its places, and where it starts.
use mathlib.Core.Logic.{◌≢◌}
use mathlib.Core.Path.{refl, ◌≡◌}
use Prim.Native.Nat.{suc, ℕ}
use native.Mathlib.Omega.{arith}
use lib.ListN.{get_or}
use Rattle.rules.specs.WellFormed.{object_no}
use Rattle.state.specs.State.{Object, body, directory, endpoint, first_of, free, places_of, process, table}
use Rattle.words.specs.Fields.{slot}
use Rattle.kept.specs.Names.{None}

-- only a table holds rights
pub no_place : (o : Object) → object_no o ≢ 1 → (e : ℕ) → get_or (places_of o) e None ≡ None
no_place free d e = refl
no_place (body f) d e = refl
no_place (table ps) d e = absurd (d refl)
no_place (directory g es) d e = refl
no_place (process t a) d e = refl
no_place (endpoint c b) d e = refl

-- what has a number stands where it starts
pub first_self : (o : Object) (i : ℕ) → object_no o ≡ suc i → (k : ℕ) → first_of k o ≡ slot k
first_self free i h k = refl
first_self (body f) i h k = absurd (omega arith)
first_self (table ps) i h k = refl
first_self (directory g es) i h k = refl
first_self (process t d) i h k = refl
first_self (endpoint c b) i h k = refl
