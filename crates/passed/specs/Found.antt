-- What an argument that passed tells: where the right stands, which place is meant, which slots are free.
use Rattle.std.specs.Prelude.{◌⊎◌, ◌≡◌, ◌%◌, ◌*◌, ◌+◌, ◌<◌, ℕ, ◌≤◌}
use Rattle.rules.specs.Addresses.{slot_of}
use Rattle.state.specs.State.{State, entries_in, free, obj_at, place_at}
use Rattle.words.specs.Fields.{slot}
use Rattle.words.specs.Sizes.{slot_size}
use Rattle.passed.specs.Names.{None, Capability, Directory, Some, KernelAddress, Kind, Memory, Slot, Span, Spot, Stretch, Table}

-- a table that an entry of the table at t names
pub record Via (st : State) (t u : Slot) : Type 0 where
  pub entry : ℕ
  pub right : Capability
  pub holds : place_at st t entry ≡ Some right
  pub kind : right.kind ≡ Table u

-- the right c, found by a number: in the caller's table t, or in a table that an entry of it names
pub record Found (st : State) (t : Slot) (c : Capability) : Type 0 where
  pub at : Slot
  pub entry : ℕ
  pub way : (at ≡ t) ⊎ Via st t at
  pub below : entry < entries_in st at
  pub holds : place_at st at entry ≡ Some c

-- a right of the kind k, found by a number
pub record By (st : State) (t : Slot) (k : Kind) : Type 0 where
  pub right : Capability
  pub found : Found st t right
  pub kind : right.kind ≡ k

abbrev pub spanned : Span → Kind
spanned d = Directory d.object d.low d.high

abbrev pub stretched : Stretch → Kind
stretched m = Memory m.low m.high

-- a place that holds the right c, and a blank one
pub record Stands (st : State) (p : Spot) (c : Capability) : Type 0 where
  pub below : p.entry < entries_in st p.table
  pub holds : place_at st p.table p.entry ≡ Some c

pub record Vacant (st : State) (p : Spot) : Type 0 where
  pub below : p.entry < entries_in st p.table
  pub blank : place_at st p.table p.entry ≡ None

-- n free slots from s on, inside the memory m
pub record Plot (st : State) (m : Stretch) (s : Slot) (n : ℕ) : Type 0 where
  pub address : KernelAddress
  pub is : slot_of address ≡ s
  pub aligned : address.0 % slot_size ≡ 0
  pub from : m.low.0 ≤ address.0
  pub to : address.0 + slot_size * n ≤ m.high.0
  pub vacant : (i : ℕ) → i < n → obj_at st (slot (s.0 + i)) ≡ free
