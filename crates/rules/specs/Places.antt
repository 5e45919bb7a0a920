-- Places, and the order of refusals at each kind of place: to fill, to delegate from, to freeze, to remove, to delete.
use Rattle.std.specs.Prelude.{Bool, false, not, ◌%◌, ◌+◌, ◌-◌, ◌^◌, ℕ, eqb, leb, ltb}
use Rattle.state.specs.State.{Object, State, body, directory, endpoint, entries_in, free, obj_at, place_at, place_number, process, table}
use Rattle.words.specs.Fields.{slot}
use Rattle.words.specs.Rights.{is_blank, is_root, is_thawed, is_under, place_thawed, stamp_of}
use Rattle.words.specs.Sizes.{quiet_ticks, slot_count}
use Rattle.words.specs.Tests.{any_below, ◌or◌}
use Rattle.words.specs.Try.{◌>>◌, ◌>>=◌, Try, need, Ok}
use Rattle.rules.specs.Names.{None, CapExist, CapFrozen, CapNull, CapQuie, CapRange, CapRefcnt, Capability, Frost, Some, Kind, Place, Slot, Spot}
use Rattle.rules.specs.Numbers.{filled}

-- ---- "A place is a plain entry number."
abbrev pub spot : Slot → ℕ → Spot
spot t e = record { table = t; entry = e }

-- "A place to fill: RANGE, FROZEN, EXIST."
unfoldable pub to_fill : State → Slot → ℕ → Try Spot
to_fill st t e = do
  need (ltb e (entries_in st t)) CapRange
  need (place_thawed (place_at st t e)) CapFrozen
  need (is_blank (place_at st t e)) CapExist
  Ok (spot t e)

-- RANGE, NULL: how freeze, remove, delete and a delegation's source begin
unfoldable pub used_at : State → Slot → ℕ → Try Capability
used_at st t e = do
  need (ltb e (entries_in st t)) CapRange
  filled CapNull (place_at st t e)

-- "Delegation's source place: RANGE, NULL, FROZEN." "Freeze: RANGE, NULL, FROZEN."
unfoldable pub thawed_at : State → Slot → ℕ → Try Capability
thawed_at st t e = do
  c ← used_at st t e
  need (is_thawed c.frost) CapFrozen
  Ok c

-- RANGE, NULL, FROZEN ("to delete or remove, not frozen")
unfoldable pub frozen_at : State → Slot → ℕ → Try Capability
frozen_at st t e = do
  c ← used_at st t e
  need (not (is_thawed c.frost)) CapFrozen
  Ok c

-- ---- "Age = (clock − stamp) mod 2^32"; stamps and clocks are below 2^32
unfoldable pub age : State → Frost → ℕ
age st f = (st.clock + 2 ^ 32 - stamp_of f) % 2 ^ 32

-- QUIE: "frozen for fewer than 8 ticks"
unfoldable pub quiet : State → Capability → Try (Unit {0})
quiet st c = need (leb quiet_ticks (age st c.frost)) CapQuie

-- REFCNT: "has children or users; root to remove; child to delete"
abbrev pub is_child_of : ℕ → Place → Bool
is_child_of p None = false
is_child_of p (Some c) = is_under p c.origin

unfoldable pub has_children : State → Spot → Bool
has_children st p = any_below slot_count (λ s. any_below (entries_in st (slot s)) (λ e. is_child_of (place_number p) (place_at st (slot s) e)))

-- "Users of a root: processes that name its object."
abbrev pub is_user_of : Slot → Object → Bool
is_user_of o free = false
is_user_of o (body h) = false
is_user_of o (table ps) = false
is_user_of o (directory g es) = false
is_user_of o (process t d) = eqb t.0 o.0 or eqb d.0 o.0
is_user_of o (endpoint c b) = false

unfoldable pub has_users : State → Slot → Bool
has_users st o = any_below slot_count (λ s. is_user_of o (obj_at st (slot s)))

-- "A place to delete: RANGE, NULL, FROZEN, TYPE, QUIE, REFCNT": the object of the root there
unfoldable pub to_delete : (Kind → Try Slot) → State → Slot → ℕ → Try Slot
to_delete kind st t e = do
  c ← frozen_at st t e
  o ← kind c.kind
  quiet st c
  need (is_root c.origin) CapRefcnt
  need (not (has_children st (spot t e))) CapRefcnt
  need (not (has_users st o)) CapRefcnt
  Ok o

-- "Remove: RANGE, NULL, FROZEN, QUIE, REFCNT."
unfoldable pub to_remove : State → Slot → ℕ → Try Spot
to_remove st t e = do
  c ← frozen_at st t e
  quiet st c
  need (not (is_root c.origin)) CapRefcnt
  need (not (has_children st (spot t e))) CapRefcnt
  Ok (spot t e)
