-- The search for a user as its loop passes it; and a user, by the tag of what stands in its slot.
use mathlib.Core.Bool.{Bool, false}
use mathlib.Core.List.{List}
use mathlib.Core.Path.{refl, ◌≡◌}
use Prim.Native.Nat.{ℕ}
use native.Mathlib.Omega.{arith}
use lib.Dec.{eqb}
use Rattle.rules.specs.Places.{is_user_of}
use Rattle.state.specs.Bytes.{tag_of}
use Rattle.state.specs.Read.{read}
use Rattle.state.specs.State.{Object, body, directory, directory_named, endpoint, free, obj_at, process, table, table_named}
use Rattle.words.specs.Fields.{slot}
use Rattle.words.specs.Tests.{◌or◌}
use Rattle.judging_deletions.specs.Names.{Slot}

-- what stands in slot k is a process that names the object at o
abbrev pub user_at : List ℕ → Slot → ℕ → Bool
user_at b o k = is_user_of o (obj_at (read b) (slot k))

pub user_known : (x : Object) (o : Slot) → tag_of x ≡ 4 → is_user_of o x ≡ (eqb (table_named x).0 o.0 or eqb (directory_named x).0 o.0)
user_known free o h = absurd (omega arith)
user_known (body f) o h = absurd (omega arith)
user_known (table ps) o h = absurd (omega arith)
user_known (directory g es) o h = absurd (omega arith)
user_known (process t d) o h = refl
user_known (endpoint c b) o h = absurd (omega arith)

pub user_none : (x : Object) (o : Slot) → (tag_of x ≡ 4 → ⊥) → is_user_of o x ≡ false
user_none free o h = refl
user_none (body f) o h = refl
user_none (table ps) o h = refl
user_none (directory g es) o h = refl
user_none (process t d) o h = absurd (h refl)
user_none (endpoint c b) o h = refl
