-- A new object in free slots: all that is asked of a state but the count of roots, since its root is not yet there.
use mathlib.Core.Bool.{true}
use mathlib.Core.Logic.{inl, inr, ◌⊎◌}
use mathlib.Core.Path.{ap, refl, ◌∙◌, ◌≡◌}
use Prim.Native.Nat.{◌<◌, ℕ}
use native.Mathlib.Omega.{arith}
use lib.ListN.{get_or}
use Rattle.words.specs.Fields.{slot}
use Rattle.state.specs.State.{Object, State, body, obj_at, places_of, raise, size_of}
use Rattle.state.proofs.LaidAfter.{laid_raise}
use Rattle.state.proofs.New.{Vacant}
use Rattle.rules.specs.WellFormed.{object_no, object_ok, roots_of, runs}
use Rattle.kept.specs.Names.{None, Slot}
use Rattle.kept.proofs.Base.{Base}
use Rattle.kept.proofs.Stand.{Bare, Stand, Zone, apart, first, later, numbered_same, stand_raise, stand_roots, zone}
use Rattle.kept.proofs.Stay.{Any, Fresh, Like, any_kind, any_object, base_stay, like_eq, runs_stay}

module _ (st : State) (w : Base st) (s : Slot) (o : Object) (i : ℕ) (n : Bare o i) (r : Vacant st s (size_of o)) where
  abbrev st' : State
  st' = raise st s o

  pub raised : Stand st st' s o
  raised = stand_raise st w.laid s o n.some r

  -- what stood stays
  pub raise_fix : (k : Slot) → 0 < object_no (obj_at st k) → obj_at st' k ≡ obj_at st k
  raise_fix k h = raised.same k.0 (λ j l e. let z : object_no (obj_at st k) ≡ 0 = ap (λ (m : ℕ). object_no (obj_at st (slot m))) e ∙ ap object_no (r.none j l) in omega arith)

  like : (k : Slot) → 0 < object_no (obj_at st k) → Any k → Like (obj_at st' k) (obj_at st k)
  like k h d = like_eq _ _ (raise_fix k h)

  pub raise_runs : (t d : Slot) → runs st t d ≡ true → runs st' t d ≡ true
  raise_runs t d h = runs_stay st st' Any like t d tt tt h

  pub raise_base : object_ok st' s o ≡ true → Base st'
  unfolding object_ok
  raise_base ok =
      base_stay st st' Any like w (laid_raise st w.laid s o n.some r.fits r.none) (numbered_same st st' w.laid s o i n raised)
      (λ k. from k (zone s.0 (size_of o) k)) (λ t e c q h. any_kind c.kind) (λ k hk. any_object (obj_at st (slot k)))
    where
      fresh : (k : ℕ) (x : Object) → obj_at st' (slot k) ≡ x → ((e : ℕ) → get_or (places_of x) e None ≡ None) → object_ok st' (slot k) x ≡ true → Fresh st st' Any like k
      fresh k x q b g = record { blank = λ e. ap (λ (y : Object). get_or (places_of y) e None) q ∙ b e; good = ap (object_ok st' (slot k)) q ∙ g }

      from : (k : ℕ) → Zone s.0 (size_of o) k → (obj_at st' (slot k) ≡ obj_at st (slot k)) ⊎ Fresh st st' Any like k
      from k (first q) = inr (fresh k o (rw q raised.here) n.blank (rw q ok))
      from k (later j l q) = inr (fresh k (body s) (rw q (raised.part j l)) (λ e. refl) refl)
      from k (apart d) = inl (raised.same k d)

  pub raise_roots : (k : ℕ) (q : Slot) → roots_of st' k q ≡ roots_of st k q
  raise_roots = stand_roots st st' w.laid s o i n raised
