-- Where a call is made, and what its arguments find there: R is closed under the tables that rights in it name, so a right found by a number is safe,
-- be it in the caller's table or in a table that an entry of it names.
use mathlib.Core.Bool.{true}
use mathlib.Core.Logic.{inl, inr, ◌⊎◌}
use mathlib.Core.Path.{subst, ◌≡◌}
use Prim.Native.Nat.{ℕ}
use Rattle.passed.proofs.Stand.{Standing, stands_found, stands_held}
use Rattle.passed.specs.Found.{By, Stands, Via}
use Rattle.rules.proofs.Facts.{wf_open}
use Rattle.rules.specs.Formed.{Formed}
use Rattle.rules.specs.WellFormed.{still, wf}
use Rattle.state.specs.State.{State, place_at}
use Rattle.apart.specs.Names.{Action, Capability, Some, Kind, Slot, Spot, Table}
use Rattle.apart.proofs.Good.{Good}
use Rattle.apart.proofs.Invariant.{Inv, Parts, Safe, SafeAt, SafeKind}

-- the state, the callers C and the tables R in the invariant, and the caller's own table t
pub record Scene (M : ℕ → ℕ → Type 0) (a b : ℕ) : Type 1 where
  pub st : State
  pub formed : wf st ≡ true
  pub C : ℕ → Type 0
  pub R : ℕ → Type 0
  pub inv : Inv M a b st C R
  pub t : Slot
  pub own : R t.0
  pub parts : Parts M

module _ {M : ℕ → ℕ → Type 0} {a b : ℕ} (S : Scene M a b) where
  abbrev pub GoodIn : Action → Type 0
  GoodIn = Good M a b S.st S.C S.R

  pub slots_formed : Formed (still S.st)
  slots_formed = (wf_open S.st S.formed).shape

  -- a right in a table of R
  held_safe : (u : Slot) (e : ℕ) (c : Capability) → S.R u.0 → place_at S.st u e ≡ Some c → Safe M a b S.st S.R c
  held_safe u e c r h = subst (SafeAt M a b S.st S.R) h (S.inv.rights u.0 e r)

  -- the table in which a number finds its right
  way_in : (u : Slot) → (u ≡ S.t) ⊎ Via S.st S.t u → S.R u.0
  way_in u (inl e) = rw e S.own
  way_in u (inr v) = subst (SafeKind M a b S.R) v.kind (held_safe S.t v.entry v.right S.own v.holds).kind

  -- ---- a right found by a number, and its object
  pub by_safe : {k : Kind} → By S.st S.t k → SafeKind M a b S.R k
  by_safe h = let f = h.found in subst (SafeKind M a b S.R) h.kind (held_safe f.at f.entry h.right (way_in f.at f.way) f.holds).kind

  pub by_stands : {k : Kind} → By S.st S.t k → Standing S.st k
  by_stands = stands_found S.st slots_formed

  -- ---- a right at a place of a table that a number found
  pub at_safe : {p : Spot} {c : Capability} → By S.st S.t (Table p.table) → Stands S.st p c → Safe M a b S.st S.R c
  at_safe {p} {c} i h = held_safe p.table p.entry c (by_safe i) h.holds

  pub at_stands : {p : Spot} {c : Capability} → Stands S.st p c → Standing S.st c.kind
  at_stands = stands_held S.st slots_formed
