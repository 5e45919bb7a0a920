-- What a passed plan tells of its action: st is the state, t the caller's table, w the words. One record for each action; the deletions differ
-- in the object, the positions in what they become.
use Rattle.std.specs.Prelude.{false, true, ◌⊎◌, ◌≡◌, ◌*◌, ◌+◌, ◌-◌, ◌<◌, ◌^◌, ℕ, ◌≤◌}
use Rattle.rules.specs.Calls.{asked_flags, asked_kind, hangs_somewhere, has_child_directory, is_empty_table}
use Rattle.rules.specs.Places.{has_children, has_users}
use Rattle.rules.specs.WellFormed.{geometric}
use Rattle.state.specs.State.{State, boot_mark, count_of, obj_at, place_number, position_at, positions_in, process, shape_at}
use Rattle.words.specs.Fields.{slot}
use Rattle.words.specs.Rights.{inside, is_root, some_range, subset}
use Rattle.words.specs.Sizes.{entry_size, header_size, most_entries, position_size, slots_for}
use Rattle.passed.specs.Found.{By, Plot, Stands, Vacant, spanned, stretched}
use Rattle.passed.specs.Names.{Action, Answer, Capability, ChangeDirectory, ChangeTable, Child, Count, CreateDirectory, CreateEndpoint, CreateProcess, CreateTable, Delete, Directory, Empty, Endpoint, Fill, Frame, Freeze, Geometry, Kind, Page, Position, Process, Remove, SetCount, SetPosition, Slot, Span, Spot, Stretch, Table, Thawed, Some, Words}

-- ---- creations: n slots from s on, the root at p
pub record Creation (st : State) (t : Slot) (p : Spot) (s : Slot) (n : ℕ) : Type 0 where
  pub into : By st t (Table p.table)
  pub fill : Vacant st p
  pub memory : Stretch
  pub ground : By st t (stretched memory)
  pub plot : Plot st memory s n

pub record TableMade (st : State) (t : Slot) (p : Spot) (s : Slot) (n : ℕ) : Type 0 where
  pub creation : Creation st t p s (slots_for (entry_size * n))
  pub some : 1 ≤ n
  pub most : n ≤ most_entries

pub record DirectoryMade (st : State) (t : Slot) (w : Words) (p : Spot) (s : Slot) (g : Geometry) : Type 0 where
  pub creation : Creation st t p s (slots_for (header_size + position_size * 2 ^ g.number))
  pub shape : geometric g ≡ true
  pub start : g.start ≤ w.p3

-- a top directory, found by a number
pub record ByTop (st : State) (t d : Slot) : Type 0 where
  pub span : Span
  pub by : By st t (spanned span)
  pub is : span.object ≡ d
  pub top : (shape_at st d).top ≡ true

pub record ProcessMade (st : State) (t : Slot) (p : Spot) (s o d : Slot) : Type 0 where
  pub creation : Creation st t p s 1
  pub table : By st t (Table o)
  pub directory : ByTop st t d

-- ---- deletions: the root at p goes, and the object at o with it
pub data Doomed (st : State) (o : Slot) : Kind → Type 0 where
  a_table : {k : Kind} → k ≡ Table o → is_empty_table st o ≡ true → Doomed st o k
  a_directory : {k : Kind} (l h : ℕ) → k ≡ Directory o l h → has_child_directory st o ≡ false → hangs_somewhere st o ≡ false → Doomed st o k
  a_process : {k : Kind} → k ≡ Process o → Doomed st o k
  an_endpoint : {k : Kind} → k ≡ Endpoint o → boot_mark (obj_at st o) ≡ false → Doomed st o k

pub record Deletion (st : State) (t : Slot) (p : Spot) (o : Slot) : Type 0 where
  pub from : By st t (Table p.table)
  pub right : Capability
  pub stands : Stands st p right
  pub root : is_root right.origin ≡ true
  pub childless : has_children st p ≡ false
  pub unused : has_users st o ≡ false
  pub doomed : Doomed st o right.kind

-- ---- delegation: the right g at p, from the right at a source place
pub record Delegation (st : State) (t : Slot) (w : Words) (p : Spot) (g : Capability) : Type 0 where
  pub to : By st t (Table p.table)
  pub fill : Vacant st p
  pub source : Spot
  pub from : By st t (Table source.table)
  pub right : Capability
  pub stands : Stands st source right
  pub kind : g.kind ≡ asked_kind right.kind w
  pub flags : g.flags ≡ asked_flags right.kind w
  pub fewer : subset (asked_flags right.kind w) right.flags ≡ true
  pub range : some_range (asked_kind right.kind w) ≡ true
  pub within : inside (asked_kind right.kind w) right.kind ≡ true
  pub frost : g.frost ≡ Thawed
  pub origin : g.origin ≡ Some (place_number source)

-- ---- freeze and remove
pub record Freezing (st : State) (t : Slot) (p : Spot) : Type 0 where
  pub in_table : By st t (Table p.table)
  pub right : Capability
  pub stands : Stands st p right

pub record Removal (st : State) (t : Slot) (p : Spot) : Type 0 where
  pub in_table : By st t (Table p.table)
  pub right : Capability
  pub stands : Stands st p right
  pub child : is_root right.origin ≡ false
  pub childless : has_children st p ≡ false

-- ---- positions: position i of the directory at d becomes x
pub record Mapped (st : State) (t d : Slot) (frame flags : ℕ) : Type 0 where
  pub span : Span
  pub by : By st t (spanned span)
  pub position : ℕ
  pub below : position < positions_in st span.object
  pub page : Frame
  pub holds : position_at st span.object position ≡ Page page.frame page.flags
  pub finer : (shape_at st d).size ≤ (shape_at st span.object).size
  pub index : ℕ
  pub indexed : index < 2 ^ ((shape_at st span.object).size - (shape_at st d).size)
  pub is : frame ≡ page.frame + index * 2 ^ (shape_at st d).size
  pub fewer : subset flags page.flags ≡ true

pub record Hung (st : State) (t d o : Slot) (flags : ℕ) : Type 0 where
  pub span : Span
  pub by : By st t (spanned span)
  pub is : span.object ≡ o
  pub orders : (shape_at st o).size + (shape_at st o).number ≡ (shape_at st d).size
  pub below_top : (shape_at st o).top ≡ false
  pub few : flags < 64

abbrev pub Becomes : State → Slot → Slot → Position → Type 0
Becomes st t d Empty = Unit {0}
Becomes st t d (Page f x) = Mapped st t d f x
Becomes st t d (Child o x) = Hung st t d o x

pub record PositionSet (st : State) (t d : Slot) (i : ℕ) (x : Position) : Type 0 where
  pub span : Span
  pub by : By st t (spanned span)
  pub is : span.object ≡ d
  pub below : i < positions_in st d
  pub becomes : Becomes st t d x

-- ---- processes and endpoints
pub record TableChanged (st : State) (t p o : Slot) : Type 0 where
  pub process : By st t (Process p)
  pub table : By st t (Table o)

pub record DirectoryChanged (st : State) (t p d : Slot) : Type 0 where
  pub process : By st t (Process p)
  pub directory : ByTop st t d

-- a signal more, or some fewer
pub record Counted (st : State) (t e : Slot) (c n : Count) : Type 0 where
  pub by : By st t (Endpoint e)
  pub counts : ((c.0 ≡ count_of (obj_at st e) + 1) × (count_of (obj_at st e) < 2 ^ 32 - 1)) ⊎ (c.0 ≤ count_of (obj_at st e))
  pub few : n.0 < 2 ^ 31

-- ---- what each action was shown
abbrev pub Passed : State → Slot → Words → Action → Type 0
Passed st t w (CreateTable p s n) = TableMade st t p s n
Passed st t w (CreateDirectory p s g) = DirectoryMade st t w p s g
Passed st t w (CreateProcess p s o d) = ProcessMade st t p s o d
Passed st t w (CreateEndpoint p s) = Creation st t p s 1
Passed st t w (Delete p o) = Deletion st t p o
Passed st t w (Fill p g) = Delegation st t w p g
Passed st t w (Freeze p) = Freezing st t p
Passed st t w (Remove p) = Removal st t p
Passed st t w (SetPosition d i x) = PositionSet st t d i x
Passed st t w (ChangeTable p o) = TableChanged st t p o
Passed st t w (ChangeDirectory p d) = DirectoryChanged st t p d
Passed st t w (SetCount e c n) = Counted st t e c n
Passed st t w (Answer n) = n < 2 ^ 31

-- the caller's table, and what its call was shown
pub record PassedCall (st : State) (caller : ℕ) (w : Words) (a : Action) : Type 0 where
  pub table : Slot
  pub directory : Slot
  pub named : obj_at st (slot caller) ≡ process table directory
  pub shown : Passed st table w a
