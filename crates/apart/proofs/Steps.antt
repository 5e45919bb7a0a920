-- One step: the tick, and any call by one whose table is in the invariant, keep the invariant and the stretch.
use mathlib.Core.Bool.{Bool, false, true}
use mathlib.Core.Logic.{inl, inr}
use mathlib.Core.Path.{refl, subst, ◌≡◌}
use Prim.Native.Nat.{ℕ}
use lib.ListN.{get_or}
use Rattle.passed.proofs.Walks.{passed}
use Rattle.rules.specs.Calls.{plan}
use Rattle.rules.specs.Commit.{after, ticked}
use Rattle.rules.specs.Run.{Event, call, step, tick}
use Rattle.rules.specs.WellFormed.{wf}
use Rattle.state.specs.State.{State, places_of}
use Rattle.words.specs.Tests.{choose}
use Rattle.words.specs.Try.{Try, Err, Ok}
use Rattle.apart.specs.Names.{Action, None, Some, Place, Words}
use Rattle.apart.proofs.Actions.{action_good}
use Rattle.apart.proofs.Good.{Good, Kept}
use Rattle.apart.proofs.Invariant.{Clear, Inv, Own, Parts, SafeAt}
use Rattle.apart.proofs.Kept.{good_kept, idle_kept}
use Rattle.apart.proofs.View.{in_slot}

-- a step is done where the state is well formed, and nothing elsewhere
choose_at : (P : State → Type 1) (x : Bool) (r st : State) → (x ≡ true → P r) → P st → P (choose x r st)
choose_at P true r st f h = f refl
choose_at P false r st f h = h

-- the caller is one of C
abbrev pub Caller : (ℕ → Type 0) → Event → Type 0
Caller C tick = Unit {0}
Caller C (call p w) = C p

module _ (M : ℕ → ℕ → Type 0) (a b : ℕ) (m_clear : Clear M a b) (m_parts : Parts M) where
  after_kept : (st : State) (C R : ℕ → Type 0) → Inv M a b st C R → (m : Try Action) → ((x : Action) → m ≡ Ok x → Good M a b st C R x)
      → Kept M a b st (after st m) C
  after_kept st C R h (Err r) g = idle_kept M a b m_clear st C R h
  after_kept st C R h (Ok x) g = good_kept M a b m_clear st C R x h (g x refl)

  plan_good : (st : State) (C R : ℕ → Type 0) → wf st ≡ true → Inv M a b st C R → (p : ℕ) → C p → (w : Words) (x : Action)
      → plan st p w ≡ Ok x → Good M a b st C R x
  plan_good st C R f h p c w x e =
      let k = passed st p w x e in
      action_good (record { st = st; formed = f; C = C; R = R; inv = h; t = k.table; own = subst (Own R) k.named (h.own p c); parts = m_parts }) w x k.shown

  -- the clock is no part of what is seen
  tick_kept : {st : State} {C : ℕ → Type 0} → Kept M a b st st C → Kept M a b st (ticked st) C
  unfolding ticked
  tick_kept {st} k = record {
    reach = k.reach;
    inv = record {
      own = λ p c. k.inv.own p (elim c [ inl q ↦ inl q | inr m ↦ inr (record { before = m.0.before; after = m.0.after }, m.1) ]);
      rights = λ t e q. again (get_or (places_of (in_slot st t)) e None) (k.inv.rights t e q);
    };
    same = record { slots = k.same.slots; objects = k.same.objects };
    made = λ f m. k.made f (record { before = m.before; after = m.after });
  }
    where
      again : (p : Place) → SafeAt M a b st k.reach p → SafeAt M a b (ticked st) k.reach p
      again None h = tt
      again (Some c) h = record { kind = h.kind; orig = h.orig }

  pub step_kept : (st : State) (C R : ℕ → Type 0) → Inv M a b st C R → (e : Event) → Caller C e → Kept M a b st (step st e) C
  unfolding step
  step_kept st C R h tick c =
      let k : Kept M a b st st C = idle_kept M a b m_clear st C R h in
      choose_at (λ r. Kept M a b st r C) (wf st) (ticked st) st (λ e. tick_kept k) k
  step_kept st C R h (call p w) c =
      choose_at (λ r. Kept M a b st r C) (wf st) (after st (plan st p w)) st
      (λ e. after_kept st C R h (plan st p w) (plan_good st C R e h p c w)) (idle_kept M a b m_clear st C R h)
