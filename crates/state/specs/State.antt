-- "Kernel memory and the state buffer": the objects, the state, how it is looked at, and how it is changed.
use Rattle.std.specs.Prelude.{Bool, true, false, List, [], ◌∷◌, ◌++◌, ℕ, ◌+◌, ◌*◌, ◌-◌, ◌/◌, length, get_or, take, drop, replicate, set}
use Rattle.words.specs.Sizes.{entry_size, header_size, position_size, slots_for}
use Rattle.words.specs.Fields.{slot}
use Rattle.state.specs.Names.{Slot, Count, Spot, Geometry, Place, None, Position, Empty}

-- what stands in a slot. `body h`: the object whose first slot is h goes on here
pub data Object : Type 0 where
  free : Object
  body : (first : Slot) → Object
  table : List Place → Object
  directory : Geometry → List Position → Object
  process : (table_at directory_at : Slot) → Object
  endpoint : (count : Count) (boot : Bool) → Object

-- "256 slots"; "the clock"
pub record State : Type 0 where
  pub slots : List Object
  pub clock : ℕ

-- ---- sizes in slots: "entries·32 bytes", "(32 + 8·2^k) bytes", "rounded up to slots"; "process, endpoint: one slot each"
abbrev pub size_of : Object → ℕ
size_of free = 1
size_of (body h) = 0
size_of (table ps) = slots_for (entry_size * length ps)
size_of (directory g es) = slots_for (header_size + position_size * length es)
size_of (process t d) = 1
size_of (endpoint c b) = 1

-- ---- looking at an object
abbrev pub places_of : Object → List Place
places_of free = []
places_of (body h) = []
places_of (table ps) = ps
places_of (directory g es) = []
places_of (process t d) = []
places_of (endpoint c b) = []

abbrev pub positions_of : Object → List Position
positions_of free = []
positions_of (body h) = []
positions_of (table ps) = []
positions_of (directory g es) = es
positions_of (process t d) = []
positions_of (endpoint c b) = []

-- no shape that a directory has, for what is no directory
abbrev pub no_shape : Geometry
no_shape = record { size = 0; number = 0; top = false; start = 0 }

abbrev pub shape_of : Object → Geometry
shape_of free = no_shape
shape_of (body h) = no_shape
shape_of (table ps) = no_shape
shape_of (directory g es) = g
shape_of (process t d) = no_shape
shape_of (endpoint c b) = no_shape

-- the table and the directory that a process names
abbrev pub table_named : Object → Slot
table_named free = slot 0
table_named (body h) = slot 0
table_named (table ps) = slot 0
table_named (directory g es) = slot 0
table_named (process t d) = t
table_named (endpoint c b) = slot 0

abbrev pub directory_named : Object → Slot
directory_named free = slot 0
directory_named (body h) = slot 0
directory_named (table ps) = slot 0
directory_named (directory g es) = slot 0
directory_named (process t d) = d
directory_named (endpoint c b) = slot 0

abbrev pub count_of : Object → ℕ
count_of free = 0
count_of (body h) = 0
count_of (table ps) = 0
count_of (directory g es) = 0
count_of (process t d) = 0
count_of (endpoint c b) = c.0

abbrev pub boot_mark : Object → Bool
boot_mark free = false
boot_mark (body h) = false
boot_mark (table ps) = false
boot_mark (directory g es) = false
boot_mark (process t d) = false
boot_mark (endpoint c b) = b

abbrev pub is_free : Object → Bool
is_free free = true
is_free (body h) = false
is_free (table ps) = false
is_free (directory g es) = false
is_free (process t d) = false
is_free (endpoint c b) = false

-- the first slot of what stands in slot s
abbrev pub first_of : ℕ → Object → Slot
first_of s free = slot s
first_of s (body h) = h
first_of s (table ps) = slot s
first_of s (directory g es) = slot s
first_of s (process t d) = slot s
first_of s (endpoint c b) = slot s

-- ---- looking at the state
abbrev pub obj_at : State → Slot → Object
obj_at st s = get_or st.slots s.0 free

abbrev pub entries_in : State → Slot → ℕ
entries_in st t = length (places_of (obj_at st t))

abbrev pub place_at : State → Slot → ℕ → Place
place_at st t e = get_or (places_of (obj_at st t)) e None

abbrev pub positions_in : State → Slot → ℕ
positions_in st d = length (positions_of (obj_at st d))

abbrev pub position_at : State → Slot → ℕ → Position
position_at st d i = get_or (positions_of (obj_at st d)) i Empty

abbrev pub shape_at : State → Slot → Geometry
shape_at st d = shape_of (obj_at st d)

-- ---- a place's number: 2·slot + entry. Entry e of the table at t stands in slot t + e/2, at byte 32·(2·t + e) of kernel memory
abbrev pub place_number : Spot → ℕ
place_number p = 2 * p.table.0 + p.entry

abbrev pub spot_numbered : State → ℕ → Spot
spot_numbered st n = let h = first_of (n / 2) (obj_at st (slot (n / 2))) in record { table = h; entry = n - 2 * h.0 }

abbrev pub place_numbered : State → ℕ → Place
place_numbered st n = let p = spot_numbered st n in place_at st p.table p.entry

-- ---- changing the state
-- l with v from place n on
unfoldable pub splice : {A : Type 0} → ℕ → List A → List A → List A
splice n v l = take n l ++ (v ++ drop (n + length v) l)

abbrev pub with_slots : State → List Object → State
with_slots st l = record { slots = l; clock = st.clock }

abbrev pub with_clock : State → ℕ → State
with_clock st c = record { slots = st.slots; clock = c }

-- the object at s, replaced by one of the same size
abbrev pub put : State → Slot → Object → State
put st s o = with_slots st (set st.slots s.0 o)

abbrev pub put_place : State → Spot → Place → State
put_place st p x = put st p.table (table (set (places_of (obj_at st p.table)) p.entry x))

abbrev pub put_position : State → Slot → ℕ → Position → State
put_position st d i x = put st d (directory (shape_at st d) (set (positions_of (obj_at st d)) i x))

-- a new object: its first slot, and the slots in which it goes on
abbrev pub risen : Slot → Object → List Object
risen s o = o ∷ replicate (size_of o - 1) (body s)

abbrev pub raise : State → Slot → Object → State
raise st s o = with_slots st (splice s.0 (risen s o) st.slots)

-- "Freed slots are zeroed": the slots of the object at s are free
abbrev pub raze : State → Slot → State
raze st s = with_slots st (splice s.0 (replicate (size_of (obj_at st s)) free) st.slots)
