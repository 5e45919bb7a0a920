-- Demand 3, what follows: "Then after any calls by the others and by processes they create, clock ticks between, the same slots of the stretch are free and the same
-- objects stand in the rest; and each object they made lies inside a memory right they could reach at the start." Proved in proofs/Isolated.antt.
use Rattle.std.specs.Prelude.{◌≡◌, ◌⊎◌, List, [], ◌∷◌, ℕ, ◌+◌, ◌^◌, ◌≤◌, ◌<◌}
use Rattle.words.specs.Fields.{slot}
use Rattle.state.specs.State.{State, place_at}
use Rattle.state.specs.Read.{read}
use Rattle.rules.specs.Run.{Event, tick, call, step, happens}
use Rattle.apart.specs.Names.{KernelAddress, Memory, Words, Capability, Some}
use Rattle.apart.specs.Reach.{process, form_at, extent_at, Covers, In, address_of, Reach, Premise}

-- "Four words"; "32-bit words"
pub record Word32 (w : Words) : Type 0 where
  pub nc : w.nc < 2 ^ 32
  pub p1 : w.p1 < 2 ^ 32
  pub p2 : w.p2 < 2 ^ 32
  pub p3 : w.p3 < 2 ^ 32

-- ---- "each object they made": the step from st to r made an object at f. It is said of each step, since an object made and deleted again counts too
pub record Made (st r : State) (f : ℕ) : Type 0 where
  pub before : extent_at st f ≡ 0
  pub after : 0 < extent_at r f

-- "and by processes they create": who may call after the step from st to r
abbrev pub Joined : (ℕ → Type 0) → State → State → ℕ → Type 0
Joined O st r p = O p ⊎ (Made st r p × (form_at r p ≡ process))

-- ---- "the same slots of the stretch are free and the same objects stand in the rest": also the objects that begin before the stretch
pub record Same (a b : ℕ) (st r : State) : Type 0 where
  pub slots : (x : ℕ) → In a b x → form_at r x ≡ form_at st x
  pub objects : (f x : ℕ) → In a b x → Covers st f x → form_at r f ≡ form_at st f

-- ---- "lies inside a memory right they could reach at the start": n slots from f
pub record Inside (st : State) (O : ℕ → Type 0) (f n : ℕ) : Type 0 where
  pub table_at : ℕ
  pub entry : ℕ
  pub right : Capability
  pub low : KernelAddress
  pub high : KernelAddress
  pub reached : Reach st O table_at
  pub holds : place_at st (slot table_at) entry ≡ Some right
  pub kind : right.kind ≡ Memory low high
  pub from : low.0 ≤ address_of f
  pub to : address_of (f + n) ≤ high.0

-- ---- the demand, for whatever keeps a state: `see` is the state that it holds, `act` what an event does to it
module _ {X : Type 0} (see : X → State) (act : X → Event → X) where
  abbrev pub run : X → List Event → X
  run x [] = x
  run x (e ∷ es) = run (act x e) es

  -- "any calls by the others and by processes they create, clock ticks between"
  abbrev pub By : (ℕ → Type 0) → X → List Event → Type 0
  By O x [] = Unit {0}
  By O x (tick ∷ es) = By O (act x tick) es
  By O x (call p w ∷ es) = O p × Word32 w × By (Joined O (see x) (see (act x (call p w)))) (act x (call p w)) es

  -- "each object they made", at the step that makes it: P of its first slot and its size in slots
  abbrev pub EachMade : (ℕ → ℕ → Type 0) → X → List Event → Type 0
  EachMade P x [] = Unit {0}
  EachMade P x (e ∷ es) = ((f : ℕ) → Made (see x) (see (act x e)) f → P f (extent_at (see (act x e)) f)) × EachMade P (act x e) es

  -- x: the start; O: the others, by their slots; a, b: the stretch. "Take a well-formed state": elsewhere every event is refused, so nothing is asked of x
  abbrev pub Demand3 : Type 1
  Demand3 = (x : X) (O : ℕ → Type 0) (a b : ℕ) (es : List Event) → Premise (see x) O a b → By O x es
      → Same a b (see x) (see (run x es)) × EachMade (Inside (see x) O) x es

-- ---- "stated over demand 2's step": the rules on states, and on lent buffers
abbrev pub itself : State → State
itself st = st

abbrev pub Demand3States : Type 1
Demand3States = Demand3 itself step

abbrev pub step_buffer : List ℕ → Event → List ℕ
step_buffer b e = (happens b e).buffer

abbrev pub Demand3Buffers : Type 1
Demand3Buffers = Demand3 read step_buffer
