-- What the writer of each action asks of the state: small facts, that the part it writes lies in the object it means, and that what it writes has the
-- room that the layout gives it. A plan that passed has shown them: `ready` in proofs/Ready.antt.
use Rattle.std.specs.Prelude.{◌≡◌, ℕ, ◌+◌, ◌*◌, ◌^◌, ◌<◌, ◌≤◌}
use Rattle.words.specs.Sizes.{slot_count, entry_size, header_size, position_size, most_entries, slots_for}
use Rattle.words.specs.Fields.{slot}
use Rattle.state.specs.State.{State, free, obj_at, entries_in, positions_in}
use Rattle.state.specs.Bytes.{tag_of}
use Rattle.writing.specs.Flags.{position_flags}
use Rattle.committing.specs.Names.{Action, Answer, ChangeDirectory, ChangeTable, CreateDirectory, CreateEndpoint, CreateProcess, CreateTable, Delete, Fill, Freeze, Geometry, Remove, SetCount, SetPosition, Slot, Spot}

-- the place is one of the table's entries
abbrev pub Entry : State → Spot → Type 0
Entry st p = p.entry < entries_in st p.table

-- ---- creations: a place for the root, and n free slots of kernel memory from s on
pub record Site (st : State) (p : Spot) (s : Slot) (n : ℕ) : Type 0 where
  pub entry : Entry st p
  pub fits : s.0 + n ≤ slot_count
  pub vacant : (i : ℕ) → i < n → obj_at st (slot (s.0 + i)) ≡ free

pub record TableSite (st : State) (p : Spot) (s : Slot) (n : ℕ) : Type 0 where
  pub site : Site st p s (slots_for (entry_size * n))
  pub some : 1 ≤ n
  pub most : n ≤ most_entries

pub record DirectorySite (st : State) (p : Spot) (s : Slot) (g : Geometry) : Type 0 where
  pub site : Site st p s (slots_for (header_size + position_size * 2 ^ g.number))
  pub number : g.number ≤ 8

-- ---- deletions: the root's place, and an object that stands
pub record DeletionSite (st : State) (p : Spot) (o : Slot) : Type 0 where
  pub entry : Entry st p
  pub stands : 2 ≤ tag_of (obj_at st o)

abbrev pub Ready : State → Action → Type 0
Ready st (CreateTable p s n) = TableSite st p s n
Ready st (CreateDirectory p s g) = DirectorySite st p s g
Ready st (CreateProcess p s t d) = Site st p s 1
Ready st (CreateEndpoint p s) = Site st p s 1
Ready st (Delete p o) = DeletionSite st p o
Ready st (Fill p c) = Entry st p
Ready st (Freeze p) = Entry st p
Ready st (Remove p) = Entry st p
-- the page flags are a byte in the layout
Ready st (SetPosition d i x) = (i < positions_in st d) × (position_flags x < 256)
Ready st (ChangeTable p t) = tag_of (obj_at st p) ≡ 4
Ready st (ChangeDirectory p d) = tag_of (obj_at st p) ≡ 4
-- "since the answer is a signed word"
Ready st (SetCount e c n) = (tag_of (obj_at st e) ≡ 5) × (n.0 < 2 ^ 31)
Ready st (Answer n) = n < 2 ^ 31
