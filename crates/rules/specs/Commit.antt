-- What a call that passed changes, and what it answers; and the tick.
use Rattle.std.specs.Prelude.{false, ◌%◌, ◌+◌, ◌-◌, ◌^◌, ℕ, pos, ℤ, replicate}
use Rattle.state.specs.State.{Object, State, boot_mark, directory, directory_named, endpoint, obj_at, place_at, process, put, put_place, put_position, raise, raze, table, table_named, with_clock}
use Rattle.words.specs.Fields.{count}
use Rattle.words.specs.Refusals.{number}
use Rattle.words.specs.Rights.{root_right}
use Rattle.words.specs.Try.{Try, Err, Ok}
use Rattle.rules.specs.Names.{Action, Answer, None, ChangeDirectory, ChangeTable, CreateDirectory, CreateEndpoint, CreateProcess, CreateTable, Delete, Directory, Empty, Endpoint, Fill, Freeze, Frozen, Some, Kind, Place, Process, Remove, SetCount, SetPosition, Slot, Spot, Table}

-- the right in a place, frozen with the clock as its stamp
abbrev pub froze : ℕ → Place → Place
froze clock None = None
froze clock (Some c) = Some (record { kind = c.kind; flags = c.flags; frost = Frozen clock; origin = c.origin })

-- an object, and its root in the place to fill
abbrev pub create : State → Spot → Slot → Object → Kind → State
create st p s o k = put_place (raise st s o) p (Some (root_right k))

abbrev pub commit : State → Action → State
commit st (CreateTable p s n) = create st p s (table (replicate n None)) (Table s)
commit st (CreateDirectory p s g) = create st p s (directory g (replicate (2 ^ g.number) Empty)) (Directory s 0 (2 ^ g.number - 1))
commit st (CreateProcess p s t d) = create st p s (process t d) (Process s)
commit st (CreateEndpoint p s) = create st p s (endpoint (count 0) false) (Endpoint s)
commit st (Delete p o) = raze (put_place st p None) o
commit st (Fill p c) = put_place st p (Some c)
commit st (Freeze p) = put_place st p (froze st.clock (place_at st p.table p.entry))
commit st (Remove p) = put_place st p None
commit st (SetPosition d i x) = put_position st d i x
commit st (ChangeTable p t) = put st p (process t (directory_named (obj_at st p)))
commit st (ChangeDirectory p d) = put st p (process (table_named (obj_at st p)) d)
commit st (SetCount e c n) = put st e (endpoint c (boot_mark (obj_at st e)))
commit st (Answer n) = st

-- "Success is 0, or a non-negative count."
abbrev pub success : Action → ℕ
success (CreateTable p s n) = 0
success (CreateDirectory p s g) = 0
success (CreateProcess p s t d) = 0
success (CreateEndpoint p s) = 0
success (Delete p o) = 0
success (Fill p c) = 0
success (Freeze p) = 0
success (Remove p) = 0
success (SetPosition d i x) = 0
success (ChangeTable p t) = 0
success (ChangeDirectory p d) = 0
success (SetCount e c n) = n.0
success (Answer n) = n

abbrev pub answer : Try Action → ℤ
answer (Err r) = number r
answer (Ok a) = pos (success a)

-- "A refusal changes nothing."
abbrev pub after : State → Try Action → State
after st (Err r) = st
after st (Ok a) = commit st a

-- "a tick adds 1 mod 2^32"
unfoldable pub ticked : State → State
ticked st = with_clock st ((st.clock + 1) % 2 ^ 32)
