-- What isolation asks of an action, and what a step must leave of the invariant. Actions.antt shows that the actions of passed plans meet the first,
-- and Kept.antt goes from the first to the second.
use mathlib.Core.Bool.{false}
use mathlib.Core.Logic.{◌⊎◌}
use mathlib.Core.Path.{◌≡◌}
use Prim.Native.Nat.{◌+◌, ◌-◌, ◌<◌, ◌^◌, ℕ, ◌≤◌}
use lib.ListN.{get_or, length, replicate, set}
use Rattle.rules.specs.Commit.{froze}
use Rattle.state.specs.State.{Object, State, boot_mark, directory, directory_named, endpoint, entries_in, free, obj_at, place_at, places_of, positions_of, process, shape_at, size_of, table, table_named}
use Rattle.words.specs.Fields.{count}
use Rattle.words.specs.Rights.{object_of}
use Rattle.apart.specs.Demand3.{Joined, Made, Same}
use Rattle.apart.specs.Names.{Action, Answer, None, ChangeDirectory, ChangeTable, CreateDirectory, CreateEndpoint, CreateProcess, CreateTable, Delete, Directory, Empty, Endpoint, Fill, Freeze, Some, Kind, Place, Process, Remove, SetCount, SetPosition, Slot, Spot, Table}
use Rattle.apart.specs.Reach.{address_of, extent, extent_at, form_at, form_of}
use Rattle.apart.proofs.Invariant.{Far, Inv, Own, SafeAt, SafeKind}
use Rattle.apart.proofs.View.{in_slot}

module _ (M : ℕ → ℕ → Type 0) (a b : ℕ) where
  -- n slots from f in a memory right of the start
  pub record Lot (f n : ℕ) : Type 0 where
    pub lo : ℕ
    pub hi : ℕ
    pub mem : M lo hi
    pub low : lo ≤ address_of f
    pub high : address_of (f + n) ≤ hi

  -- the object at x becomes o, of the same form; a caller's table stays one of R, and the rights in a table of R stay safe
  pub record GoodPut (st : State) (C R : ℕ → Type 0) (x : ℕ) (o : Object) : Type 0 where
    pub form : form_of o ≡ form_at st x
    pub own : C x → Own R o
    pub places : R x → (j : ℕ) → SafeAt M a b st R (get_or (places_of o) j None)
    pub fits : x < length st.slots

  -- the place at p becomes x, which is safe in a table of R
  pub record GoodPlace (st : State) (R : ℕ → Type 0) (p : Spot) (x : Place) : Type 0 where
    pub entry : p.entry < entries_in st p.table
    pub safe : SafeAt M a b st R x

  -- an object o without rights is made at s in n free slots, its root at p; the table that a new process names is one of R
  pub record GoodCreate (st : State) (R : ℕ → Type 0) (p : Spot) (s : Slot) (o : Object) (k : Kind) : Type 0 where
    pub n : ℕ
    pub entry : p.entry < entries_in st p.table
    pub lot : Lot s.0 n
    pub fits : s.0 + n ≤ length st.slots
    pub vacant : (x : ℕ) → s.0 ≤ x → x < s.0 + n → in_slot st x ≡ free
    pub some : 0 < n
    pub size : size_of o ≡ n
    pub extends : extent (form_of o) ≡ n
    pub empty : (j : ℕ) → get_or (places_of o) j None ≡ None
    pub names : Own R o
    pub kind : SafeKind M a b (λ u. R u ⊎ (u ≡ s.0)) k
    pub object : (object_of k).0 ≡ s.0

  -- the object at o goes, which is far from the stretch, and its root at p
  pub record GoodDelete (st : State) (p : Spot) (o : Slot) : Type 0 where
    pub entry : p.entry < entries_in st p.table
    pub far : Far a b st o.0
    pub size : size_of (obj_at st o) ≡ extent_at st o.0
    pub fits : o.0 + extent_at st o.0 ≤ length st.slots
    pub inner : (x : ℕ) → o.0 < x → x < o.0 + extent_at st o.0 → extent_at st x ≡ 0

  -- what each action asks; C: the callers, R: the tables in the invariant
  abbrev pub Good : State → (ℕ → Type 0) → (ℕ → Type 0) → Action → Type 0
  Good st C R (CreateTable p s n) = GoodCreate st R p s (table (replicate n None)) (Table s)
  Good st C R (CreateDirectory p s g) = GoodCreate st R p s (directory g (replicate (2 ^ g.number) Empty)) (Directory s 0 (2 ^ g.number - 1))
  Good st C R (CreateProcess p s t d) = GoodCreate st R p s (process t d) (Process s)
  Good st C R (CreateEndpoint p s) = GoodCreate st R p s (endpoint (count 0) false) (Endpoint s)
  Good st C R (Delete p o) = GoodDelete st p o
  Good st C R (Fill p c) = GoodPlace st R p (Some c)
  Good st C R (Freeze p) = GoodPlace st R p (froze st.clock (place_at st p.table p.entry))
  Good st C R (Remove p) = GoodPlace st R p None
  Good st C R (SetPosition d i x) = GoodPut st C R d.0 (directory (shape_at st d) (set (positions_of (obj_at st d)) i x))
  Good st C R (ChangeTable p t) = GoodPut st C R p.0 (process t (directory_named (obj_at st p)))
  Good st C R (ChangeDirectory p d) = GoodPut st C R p.0 (process (table_named (obj_at st p)) d)
  Good st C R (SetCount e c n) = GoodPut st C R e.0 (endpoint c (boot_mark (obj_at st e)))
  Good st C R (Answer n) = Unit {0}

  -- ---- what a step of the callers C must leave: the invariant for them and the processes that they made, the stretch, and objects only in lots
  pub record Kept (st r : State) (C : ℕ → Type 0) : Type 1 where
    pub reach : ℕ → Type 0
    pub inv : Inv M a b r (Joined C st r) reach
    pub same : Same a b st r
    pub made : (f : ℕ) → Made st r f → Lot f (extent_at r f)
