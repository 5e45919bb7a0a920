-- Demand 3, its premise: "Take a well-formed state, a stretch of kernel memory, and some programs called the others. Premise: in no table the others can reach,
-- through any table they reach, is there a memory right touching the stretch or an original right to an object touching it."
use Rattle.std.specs.Prelude.{◌≡◌, Bool, ℕ, suc, ◌+◌, ◌*◌, ◌≤◌, ◌<◌, length}
use Rattle.words.specs.Sizes.{slot_size, kernel_start, entry_size, header_size, position_size, slots_for}
use Rattle.words.specs.Rights.{object_of}
use Rattle.words.specs.Fields.{slot}
use Rattle.state.specs.State.{Object, State, obj_at, place_at}
use Rattle.state.specs.State as S
use Rattle.apart.specs.Names.{Slot, KernelAddress, Geometry, Kind, Table, Directory, Memory, Process, Endpoint, Function, None, Capability, Some}

-- ---- what stands in a slot, contents apart: "the same objects" keep kind, first slot, size, a directory's shape and the boot endpoint's mark.
-- `body first`: the object whose first slot is `first` goes on here
pub data Form : Type 0 where
  free : Form
  body : (first : Slot) → Form
  table : (entries : ℕ) → Form
  directory : Geometry → (positions : ℕ) → Form
  process : Form
  endpoint : (boot : Bool) → Form

abbrev pub form_of : Object → Form
form_of S.free = free
form_of (S.body h) = body h
form_of (S.table ps) = table (length ps)
form_of (S.directory g es) = directory g (length es)
form_of (S.process t d) = process
form_of (S.endpoint c b) = endpoint b

abbrev pub form_at : State → ℕ → Form
form_at st x = form_of (obj_at st (slot x))

-- "Objects live in the slots and are named by their first slot": how many slots the object has that begins here.
-- None begins in a free slot or where another goes on
abbrev pub extent : Form → ℕ
extent free = 0
extent (body h) = 0
extent (table n) = slots_for (entry_size * n)
extent (directory g n) = slots_for (header_size + position_size * n)
extent process = 1
extent (endpoint b) = 1

abbrev pub extent_at : State → ℕ → ℕ
extent_at st x = extent (form_at st x)

-- slot x is a slot of the object at f
abbrev pub Covers : State → ℕ → ℕ → Type 0
Covers st f x = (f ≤ x) × (x < f + extent_at st f)

-- ---- "a stretch of kernel memory": the slots from a to below b
abbrev pub In : ℕ → ℕ → ℕ → Type 0
In a b x = (a ≤ x) × (x < b)

-- "from 0x20000000 ... in 256 slots of 64 bytes": slot x has the addresses from address_of x to below address_of (suc x)
abbrev pub address_of : ℕ → ℕ
address_of x = kernel_start + slot_size * x

-- ---- "Reach, for demand 3: the tables that the others' processes name, then each table named by a right in a reached table, frozen or not, with any flags"
-- O: the others, by the slots of their processes
pub data Reach (st : State) (O : ℕ → Type 0) : ℕ → Type 0 where
  own : {p : ℕ} {t d : Slot} → O p → obj_at st (slot p) ≡ S.process t d → Reach st O t.0
  via : {t : ℕ} {c : Capability} {o : Slot} (e : ℕ) → Reach st O t → place_at st (slot t) e ≡ Some c → c.kind ≡ Table o → Reach st O o.0

-- ---- "a memory right touching the stretch": "the upper is excluded".
-- "an original right to an object touching it": "An original right is a root."
abbrev pub NamesObject : Kind → Type 0
NamesObject (Table o) = Unit {0}
NamesObject (Directory o l h) = Unit {0}
NamesObject (Memory l h) = ⊥
NamesObject (Process o) = Unit {0}
NamesObject (Endpoint o) = Unit {0}
NamesObject (Function l h) = ⊥

pub data Touches (st : State) (a b : ℕ) (c : Capability) : Type 0 where
  memory : (l h : KernelAddress) (x : ℕ) → c.kind ≡ Memory l h → In a b x → l.0 < address_of (suc x) → address_of x < h.0 → Touches st a b c
  original : (x : ℕ) → NamesObject c.kind → c.origin ≡ None → In a b x → Covers st (object_of c.kind).0 x → Touches st a b c

-- ---- "in no table the others can reach, through any table they reach"
abbrev pub Premise : State → (ℕ → Type 0) → ℕ → ℕ → Type 0
Premise st O a b = (t e : ℕ) (c : Capability) → Reach st O t → place_at st (slot t) e ≡ Some c → Touches st a b c → ⊥
