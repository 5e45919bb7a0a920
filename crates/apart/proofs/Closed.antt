-- How the premise is shown: S is a set of tables that has the others' own tables and each table named in one of S, and what its tables hold was delegated
-- and ranges over no memory of the stretch.
use mathlib.Core.Logic.{inl, inr, ◌⊎◌}
use mathlib.Core.Path.{subst, sym, ◌≡◌}
use Prim.Native.Nat.{◌<◌, suc, ℕ, ◌≤◌}
use native.Mathlib.Omega.{arith}
use Rattle.state.specs.State.{State, place_at}
use Rattle.words.specs.Fields.{slot}
use Rattle.apart.specs.Names.{None, Capability, Directory, Endpoint, Function, Some, Kind, Memory, Origin, Place, Process, Table}
use Rattle.apart.specs.Reach.{In, NamesObject, Premise, Reach, Touches, address_of, memory, original, own, via}
use Rattle.apart.proofs.Invariant.{Own}
use Rattle.apart.proofs.View.{in_slot}

abbrev pub Delegated : Origin → Type 0
Delegated None = ⊥
Delegated (Some p) = Unit {0}

abbrev pub CalmKind : (ℕ → Type 0) → ℕ → ℕ → Kind → Origin → Type 0
CalmKind S a b (Table o) r = S o.0 × Delegated r
CalmKind S a b (Directory o l h) r = Delegated r
CalmKind S a b (Memory l h) r = (h.0 ≤ address_of a) ⊎ (address_of b ≤ l.0)
CalmKind S a b (Process o) r = Delegated r
CalmKind S a b (Endpoint o) r = Delegated r
CalmKind S a b (Function l h) r = Unit {0}

abbrev pub Calm : (ℕ → Type 0) → ℕ → ℕ → Place → Type 0
Calm S a b None = Unit {0}
Calm S a b (Some c) = CalmKind S a b c.kind c.origin

module _ (st : State) (O S : ℕ → Type 0) (a b : ℕ) (owns : (p : ℕ) → O p → Own S (in_slot st p)) (calm : (t e : ℕ) → S t → Calm S a b (place_at st (slot t) e)) where
  pub reach_in : (t : ℕ) → Reach st O t → S t
  reach_in _ (own {p} c e) = subst (Own S) e (owns p c)
  reach_in _ (via {t} {c} {o} e r h k) = go c.kind k (subst (Calm S a b) h (calm t e (reach_in t r)))
    where
      go : (x : Kind) → x ≡ Table o → CalmKind S a b x c.origin → S o.0
      go x q = subst (λ (y : Kind). CalmKind S a b y c.origin → S o.0) (sym q) (λ z. z.0)

  not_root : (k : Kind) → NamesObject k → CalmKind S a b k None → ⊥
  not_root (Table o) n h = h.1
  not_root (Directory o l u) n h = h
  not_root (Memory l u) n h = n
  not_root (Process o) n h = h
  not_root (Endpoint o) n h = h
  not_root (Function l u) n h = n

  off : (l h x : ℕ) → In a b x → l < address_of (suc x) → address_of x < h → (h ≤ address_of a) ⊎ (address_of b ≤ l) → ⊥
  off l h x i p q (inl z) = let y = i.0 in omega arith
  off l h x i p q (inr z) = let y = i.1 in omega arith

  touches_not : (c : Capability) → CalmKind S a b c.kind c.origin → Touches st a b c → ⊥
  touches_not c z (memory l h x k i p q) = off l.0 h.0 x i p q (rw k at z)
  touches_not c z (original x n r i v) = not_root c.kind n (rw r at z)

  pub closed_premise : Premise st O a b
  closed_premise t e c r h = touches_not c (subst (Calm S a b) h (calm t e (reach_in t r)))
