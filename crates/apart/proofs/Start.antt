-- The start of a run: by the premise the invariant holds of the tables that the others reach, and what lies in a memory right there is clear of the stretch.
use mathlib.Core.Path.{refl, ◌≡◌}
use Prim.Native.Nat.{ℕ, ◌≤◌}
use native.Mathlib.Omega.{arith}
use Rattle.state.specs.State.{Object, State, body, directory, endpoint, free, obj_at, place_at, process, table}
use Rattle.words.specs.Fields.{slot}
use Rattle.apart.specs.Demand3.{Inside}
use Rattle.apart.specs.Names.{None, Capability, Directory, Endpoint, Function, Some, KernelAddress, Kind, Memory, Place, Process, Table}
use Rattle.apart.specs.Reach.{Premise, Reach, memory, original, own, via}
use Rattle.apart.proofs.Good.{Lot}
use Rattle.apart.proofs.Invariant.{Clear, Inv, Own, Parts, SafeAt, SafeKind}
use Rattle.apart.proofs.View.{in_slot}

module _ (st₀ : State) (O : ℕ → Type 0) where
  -- the ranges inside a memory right in reach at the start
  pub record Within (lo hi : ℕ) : Type 0 where
    pub table_at : ℕ
    pub entry : ℕ
    pub right : Capability
    pub low : KernelAddress
    pub high : KernelAddress
    pub reached : Reach st₀ O table_at
    pub holds : place_at st₀ (slot table_at) entry ≡ Some right
    pub kind : right.kind ≡ Memory low high
    pub from : low.0 ≤ lo
    pub to : hi ≤ high.0

  pub within_parts : Parts Within
  within_parts lo hi lo' hi' m p q = record {
    table_at = m.table_at;
    entry = m.entry;
    right = m.right;
    low = m.low;
    high = m.high;
    reached = m.reached;
    holds = m.holds;
    kind = m.kind;
    from = omega (arith, m.from);
    to = omega (arith, m.to);
  }

  pub lot_inside : {a b f n : ℕ} → Lot Within a b f n → Inside st₀ O f n
  lot_inside l = let m = within_parts _ _ _ _ l.mem l.low l.high in record {
    table_at = m.table_at;
    entry = m.entry;
    right = m.right;
    low = m.low;
    high = m.high;
    reached = m.reached;
    holds = m.holds;
    kind = m.kind;
    from = m.from;
    to = m.to;
  }

  module _ (a b : ℕ) (premise : Premise st₀ O a b) where
    pub within_clear : Clear Within a b
    within_clear lo hi x m i p q =
        premise m.table_at m.entry m.right m.reached m.holds (memory m.low m.high x m.kind i (omega (arith, m.from)) (omega (arith, m.to)))

    start_own : (p : ℕ) → O p → (o : Object) → obj_at st₀ (slot p) ≡ o → Own (Reach st₀ O) o
    start_own p c free e = tt
    start_own p c (body h) e = tt
    start_own p c (table ps) e = tt
    start_own p c (directory g es) e = tt
    start_own p c (process t d) e = own c e
    start_own p c (endpoint n m) e = tt

    start_kind : (t e : ℕ) → Reach st₀ O t → (c : Capability) → place_at st₀ (slot t) e ≡ Some c → (k : Kind) → c.kind ≡ k → SafeKind Within a b (Reach st₀ O) k
    start_kind t e r c h (Table o) k = via e r h k
    start_kind t e r c h (Directory o l u) k = tt
    start_kind t e r c h (Memory l u) k =
        record { table_at = t; entry = e; right = c; low = l; high = u; reached = r; holds = h; kind = k; from = omega arith; to = omega arith }
    start_kind t e r c h (Process o) k = tt
    start_kind t e r c h (Endpoint o) k = tt
    start_kind t e r c h (Function l u) k = tt

    start_place : (t e : ℕ) → Reach st₀ O t → (p : Place) → place_at st₀ (slot t) e ≡ p → SafeAt Within a b st₀ (Reach st₀ O) p
    start_place t e r None h = tt
    start_place t e r (Some c) h = record { kind = start_kind t e r c h c.kind refl; orig = λ n o x i p q. premise t e c r h (original x n o i (p, q)) }

    pub start : Inv Within a b st₀ O (Reach st₀ O)
    start = record { own = λ p c. start_own p c (in_slot st₀ p) refl; rights = λ t e r. start_place t e r (place_at st₀ (slot t) e) refl }
