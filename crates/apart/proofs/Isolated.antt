-- Demand 3, proved: for runs of the tick and all twenty calls, over whatever keeps a state and does the rules' own step or none; first of all over states.
use mathlib.Core.List.{List, [], ◌∷◌}
use mathlib.Core.Logic.{inl, inr, ◌⊎◌}
use mathlib.Core.Path.{refl, subst, sym, ◌≡◌}
use Prim.Native.Nat.{ℕ}
use Rattle.rules.specs.Run.{Event, call, step, tick}
use Rattle.state.specs.State.{State}
use Rattle.apart.specs.Demand3.{By, Demand3, Demand3States, EachMade, Inside, Joined, Same, Word32, itself, run}
use Rattle.apart.specs.Reach.{Premise, Reach}
use Rattle.apart.proofs.Good.{Kept}
use Rattle.apart.proofs.Invariant.{Clear, Inv, same_forms, same_trans}
use Rattle.apart.proofs.Kept.{idle_kept}
use Rattle.apart.proofs.Start.{Within, lot_inside, start, within_clear, within_parts}
use Rattle.apart.proofs.Steps.{Caller, step_kept}

-- the words of an event are 32-bit words
abbrev pub Worded : Event → Type 0
Worded tick = Unit {0}
Worded (call p w) = Word32 w

module _ {X : Type 0} (see : X → State) (act : X → Event → X)
    (faithful : (x : X) (e : Event) → Worded e → (see (act x e) ≡ see x) ⊎ (see (act x e) ≡ step (see x) e)) where
  module _ (x₀ : X) (O : ℕ → Type 0) (a b : ℕ) (premise : Premise (see x₀) O a b) where
    abbrev W : ℕ → ℕ → Type 0
    W = Within (see x₀) O

    clear : Clear W a b
    clear = within_clear (see x₀) O a b premise

    act_kept : (x : X) (C R : ℕ → Type 0) → Inv W a b (see x) C R → (e : Event) → Caller C e → Worded e → Kept W a b (see x) (see (act x e)) C
    act_kept x C R h e c w = go (faithful x e w)
      where
        go : (see (act x e) ≡ see x) ⊎ (see (act x e) ≡ step (see x) e) → Kept W a b (see x) (see (act x e)) C
        go (inl q) = subst (λ (r : State). Kept W a b (see x) r C) (sym q) (idle_kept W a b clear (see x) C R h)
        go (inr q) = subst (λ (r : State). Kept W a b (see x) r C) (sym q) (step_kept W a b clear (within_parts (see x₀) O) (see x) C R h e c)

    run_kept : (es : List Event) (x : X) (C R : ℕ → Type 0) → Inv W a b (see x) C R → By see act C x es
        → Same a b (see x) (see (run see act x es)) × EachMade see act (Inside (see x₀) O) x es
    run_kept [] x C R h y = (same_forms a b (see x) (see x) (λ z. refl), tt)
    run_kept (tick ∷ es) x C R h y =
        let k = act_kept x C R h tick tt tt in
        let r = act x tick in
        let z = run_kept es r C k.reach (record { own = λ p c. k.inv.own p (inl c); rights = k.inv.rights }) y in
        (same_trans a b (see x) (see r) (see (run see act r es)) k.same z.0, (λ f m. lot_inside (see x₀) O (k.made f m), z.1))
    run_kept (call p w ∷ es) x C R h y =
        let k = act_kept x C R h (call p w) y.0 y.1 in
        let r = act x (call p w) in
        let z = run_kept es r (Joined C (see x) (see r)) k.reach k.inv y.2 in
        (same_trans a b (see x) (see r) (see (run see act r es)) k.same z.0, (λ f m. lot_inside (see x₀) O (k.made f m), z.1))

  pub demand3_of : Demand3 see act
  demand3_of x O a b es h y = run_kept x O a b h es x O (Reach (see x) O) (start (see x) O a b h) y

pub demand3 : Demand3States
demand3 = demand3_of itself step (λ st e w. inr refl)
