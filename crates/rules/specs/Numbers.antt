-- Capability arguments: "RANGE, FROZEN, TYPE, FLAG, at each step of a two-step number (the first step needs no flag)".
use Rattle.std.specs.Prelude.{false, true, ◌%◌, ◌/◌, ℕ, ltb}
use Rattle.state.specs.State.{State, entries_in, place_at, shape_at}
use Rattle.words.specs.Fields.{capability_number}
use Rattle.words.specs.Rights.{has, place_thawed}
use Rattle.words.specs.Tests.{◌&◌}
use Rattle.words.specs.Try.{◌>>◌, ◌>>=◌, Try, need, Err, Ok}
use Rattle.rules.specs.Names.{None, CapFlag, CapFrozen, CapRange, CapType, Capability, CapabilityNumber, Directory, Endpoint, Function, FunctionRange, Some, Kind, Memory, PgtHw, Place, Process, Refusal, Slot, Span, Stretch, Table}

-- what a place holds, or the refusal r where it is blank
abbrev pub filled : Refusal → Place → Try Capability
filled r None = Err r
filled r (Some c) = Ok c

-- entry e of the table at t: RANGE, FROZEN, then TYPE for "blank where a kind is needed"
unfoldable pub right_at : State → Slot → ℕ → Try Capability
right_at st t e = do
  need (ltb e (entries_in st t)) CapRange
  need (place_thawed (place_at st t e)) CapFrozen
  filled CapType (place_at st t e)

-- TYPE for "other kind", one for each kind
unfoldable pub as_table : Kind → Try Slot
as_table (Table o) = Ok o
as_table (Directory o l h) = Err CapType
as_table (Memory l h) = Err CapType
as_table (Process o) = Err CapType
as_table (Endpoint o) = Err CapType
as_table (Function l h) = Err CapType

unfoldable pub as_directory : Kind → Try Span
as_directory (Table o) = Err CapType
as_directory (Directory o l h) = Ok (record { object = o; low = l; high = h })
as_directory (Memory l h) = Err CapType
as_directory (Process o) = Err CapType
as_directory (Endpoint o) = Err CapType
as_directory (Function l h) = Err CapType

unfoldable pub as_memory : Kind → Try Stretch
as_memory (Table o) = Err CapType
as_memory (Directory o l h) = Err CapType
as_memory (Memory l h) = Ok (record { low = l; high = h })
as_memory (Process o) = Err CapType
as_memory (Endpoint o) = Err CapType
as_memory (Function l h) = Err CapType

unfoldable pub as_process : Kind → Try Slot
as_process (Table o) = Err CapType
as_process (Directory o l h) = Err CapType
as_process (Memory l h) = Err CapType
as_process (Process o) = Ok o
as_process (Endpoint o) = Err CapType
as_process (Function l h) = Err CapType

unfoldable pub as_endpoint : Kind → Try Slot
as_endpoint (Table o) = Err CapType
as_endpoint (Directory o l h) = Err CapType
as_endpoint (Memory l h) = Err CapType
as_endpoint (Process o) = Err CapType
as_endpoint (Endpoint o) = Ok o
as_endpoint (Function l h) = Err CapType

unfoldable pub as_function : Kind → Try FunctionRange
as_function (Table o) = Err CapType
as_function (Directory o l h) = Err CapType
as_function (Memory l h) = Err CapType
as_function (Process o) = Err CapType
as_function (Endpoint o) = Err CapType
as_function (Function l h) = Ok (record { low = l; high = h })

-- "A capability number v below 128 is an entry of the caller's table. If 128 ≤ v < 32768 and bit 7 is set, entry v/256 must be a table,
-- and v mod 128 is the entry in it. Anything else is out of range."
unfoldable pub two_step : State → Slot → ℕ → Try Capability
two_step st t v = do
  need (ltb v 32768 & has v 7) CapRange
  c ← right_at st t (v / 256)
  o ← as_table c.kind
  right_at st o (v % 128)

unfoldable pub lookup : State → Slot → CapabilityNumber → Try Capability
lookup st t v = elim (ltb v.0 128) [ true ↦ right_at st t v.0 | false ↦ two_step st t v.0 ]

-- the kind, then FLAG, "flag or range lacking"
unfoldable pub argument : {A : Type 0} → (Kind → Try A) → State → Slot → ℕ → ℕ → Try A
argument kind st t v f = do
  c ← lookup st t (capability_number v)
  a ← kind c.kind
  need (has c.flags f) CapFlag
  Ok a

abbrev pub table_arg : State → Slot → ℕ → ℕ → Try Slot
table_arg = argument as_table

abbrev pub directory_arg : State → Slot → ℕ → ℕ → Try Span
directory_arg = argument as_directory

abbrev pub memory_arg : State → Slot → ℕ → ℕ → Try Stretch
memory_arg = argument as_memory

abbrev pub process_arg : State → Slot → ℕ → ℕ → Try Slot
process_arg = argument as_process

abbrev pub endpoint_arg : State → Slot → ℕ → ℕ → Try Slot
endpoint_arg = argument as_endpoint

-- "A process's directory must be top, else PGT_HW, checked after that argument"
unfoldable pub top_arg : State → Slot → ℕ → ℕ → Try Slot
top_arg st t v f = do
  d ← directory_arg st t v f
  need (shape_at st d.object).top PgtHw
  Ok d.object
