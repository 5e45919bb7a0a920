-- The invariant of isolation: tables among which are all that the callers reach, in which no right touches the stretch.
-- It is said of any such set of tables, since what is reached changes with each call, and a set that only grows does not.
use mathlib.Core.Logic.{inl, inr}
use mathlib.Core.Path.{ap, ◌∙◌, ◌≡◌}
use Prim.Native.Nat.{◌+◌, ◌<◌, suc, ℕ, ◌≤◌}
use native.Mathlib.Omega.{arith}
use lib.ListN.{get_or}
use Rattle.state.specs.State.{Object, State, body, directory, endpoint, free, places_of, process, table}
use Rattle.words.specs.Rights.{object_of}
use Rattle.apart.specs.Demand3.{Joined, Same}
use Rattle.apart.specs.Names.{None, Capability, Directory, Endpoint, Function, Some, Kind, Memory, Place, Process, Table}
use Rattle.apart.specs.Reach.{In, NamesObject, address_of, extent, extent_at, form_at}
use Rattle.apart.proofs.View.{in_slot}

-- where no object is larger than before, no process joins the callers
pub joined_same : (C : ℕ → Type 0) (st r : State) → ((x : ℕ) → 0 < extent_at r x → extent_at r x ≡ extent_at st x) → (p : ℕ) → Joined C st r p → C p
joined_same C st r h p (inl c) = c
joined_same C st r h p (inr m) = absurd (let e = h p m.0.after in let b = m.0.before in let a = m.0.after in omega arith)

-- the table that a process names is in R
abbrev pub Own : (ℕ → Type 0) → Object → Type 0
Own R free = Unit {0}
Own R (body h) = Unit {0}
Own R (table ps) = Unit {0}
Own R (directory g es) = Unit {0}
Own R (process t d) = R t.0
Own R (endpoint c b) = Unit {0}

pub own_on : (R Q : ℕ → Type 0) → ((u : ℕ) → R u → Q u) → (o : Object) → Own R o → Own Q o
own_on R Q q free h = tt
own_on R Q q (body f) h = tt
own_on R Q q (table ps) h = tt
own_on R Q q (directory g es) h = tt
own_on R Q q (process t d) h = q t.0 h
own_on R Q q (endpoint c b) h = tt

-- a, b: the stretch. No slot of the object at f is in it
abbrev pub Far : ℕ → ℕ → State → ℕ → Type 0
Far a b st f = (x : ℕ) → In a b x → f ≤ x → x < f + extent_at st f → ⊥

-- M: the ranges inside a memory right of the start. A range of M is clear of the stretch, and so are its parts
abbrev pub Clear : (ℕ → ℕ → Type 0) → ℕ → ℕ → Type 0
Clear M a b = (lo hi x : ℕ) → M lo hi → In a b x → address_of x < hi → lo < address_of (suc x) → ⊥

abbrev pub Parts : (ℕ → ℕ → Type 0) → Type 0
Parts M = (lo hi lo' hi' : ℕ) → M lo hi → lo ≤ lo' → hi' ≤ hi → M lo' hi'

module _ (M : ℕ → ℕ → Type 0) (a b : ℕ) where
  -- R: the tables in the invariant. A right to a table names one of them, and a memory right is of M
  abbrev pub SafeKind : (ℕ → Type 0) → Kind → Type 0
  SafeKind R (Table o) = R o.0
  SafeKind R (Directory o l h) = Unit {0}
  SafeKind R (Memory l h) = M l.0 h.0
  SafeKind R (Process o) = Unit {0}
  SafeKind R (Endpoint o) = Unit {0}
  SafeKind R (Function l h) = Unit {0}

  -- and a root's object is far from the stretch
  pub record Safe (st : State) (R : ℕ → Type 0) (c : Capability) : Type 0 where
    pub kind : SafeKind R c.kind
    pub orig : NamesObject c.kind → c.origin ≡ None → Far a b st (object_of c.kind).0

  abbrev pub SafeAt : State → (ℕ → Type 0) → Place → Type 0
  SafeAt st R None = Unit {0}
  SafeAt st R (Some c) = Safe st R c

  -- C: the callers. Their tables are in R, and each right in a table of R is safe
  pub record Inv (st : State) (C R : ℕ → Type 0) : Type 0 where
    pub own : (p : ℕ) → C p → Own R (in_slot st p)
    pub rights : (t e : ℕ) → R t → SafeAt st R (get_or (places_of (in_slot st t)) e None)

  kind_on : (R Q : ℕ → Type 0) → ((u : ℕ) → R u → Q u) → (k : Kind) → SafeKind R k → SafeKind Q k
  kind_on R Q q (Table o) h = q o.0 h
  kind_on R Q q (Directory o l u) h = tt
  kind_on R Q q (Memory l u) h = h
  kind_on R Q q (Process o) h = tt
  kind_on R Q q (Endpoint o) h = tt
  kind_on R Q q (Function l u) h = tt

  -- a right stays safe where more tables count as reached and each object stays far
  pub safe_on : (st r : State) (R Q : ℕ → Type 0) → ((u : ℕ) → R u → Q u) → ((f : ℕ) → Far a b st f → Far a b r f) → (p : Place) → SafeAt st R p → SafeAt r Q p
  safe_on st r R Q q f None h = tt
  safe_on st r R Q q f (Some c) h = record { kind = kind_on R Q q c.kind h.kind; orig = λ n e. f (object_of c.kind).0 (h.orig n e) }

  pub far_forms : (st r : State) → ((x : ℕ) → form_at r x ≡ form_at st x) → (f : ℕ) → Far a b st f → Far a b r f
  far_forms st r e f h x i p q = h x i p (rw (ap extent (e f)) at q)

-- ---- the stretch is the same where all forms are, and from step to step
pub same_forms : (a b : ℕ) (st r : State) → ((x : ℕ) → form_at r x ≡ form_at st x) → Same a b st r
same_forms a b st r e = record { slots = λ x i. e x; objects = λ f x i c. e f }

pub same_trans : (a b : ℕ) (st r q : State) → Same a b st r → Same a b r q → Same a b st q
same_trans a b st r q h k = record {
  slots = λ x i. k.slots x i ∙ h.slots x i;
  objects = λ f x i c. let e : form_at r f ≡ form_at st f = h.objects f x i c in k.objects f x i (c.0, rw (ap extent e) c.1) ∙ e;
}
