-- Demand 3 on lent buffers, from what carries it there: that a call leaves a well-formed state. That is the crate `kept`'s theorem.
use mathlib.Core.Bool.{Bool, false, true}
use mathlib.Core.List.{List}
use mathlib.Core.Logic.{inl, inr, ◌⊎◌}
use mathlib.Core.Path.{ap, refl, sym, ◌∙◌, ◌≡◌}
use Prim.Native.Nat.{◌<◌, ◌^◌, ℕ}
use Rattle.rules.proofs.Clock.{wf_tick}
use Rattle.rules.proofs.Held.{held}
use Rattle.rules.proofs.Lift.{call_on, sound_open, tick_on}
use Rattle.rules.specs.Buffer.{Outcome, call_outcome, sound, tick_outcome}
use Rattle.rules.specs.Calls.{plan}
use Rattle.rules.specs.Commit.{after, ticked}
use Rattle.rules.specs.Run.{Event, call, happens, step, tick}
use Rattle.rules.specs.WellFormed.{wf}
use Rattle.state.specs.Read.{read}
use Rattle.state.specs.State.{State}
use Rattle.words.specs.Tests.{choose}
use Rattle.apart.specs.Demand3.{Demand3Buffers, step_buffer}
use Rattle.apart.specs.Names.{Words}
use Rattle.apart.proofs.Isolated.{Worded, demand3_of}

choose_true : {A : Type 0} (x : Bool) (r s : A) → x ≡ true → choose x r s ≡ r
choose_true x r s e = rw e

choose_false : {A : Type 0} (x : Bool) (r s : A) → x ≡ false → choose x r s ≡ s
choose_false x r s e = rw e

-- a buffer that is not sound is left as it is
unsound_step : (b : List ℕ) (e : Event) → sound b ≡ false → read (step_buffer b e) ≡ read b
unfolding happens call_outcome tick_outcome
unsound_step b tick s = ap (λ (o : Outcome). read o.buffer) (choose_false (sound b) _ _ s)
unsound_step b (call p w) s = ap (λ (o : Outcome). read o.buffer) (choose_false (sound b) _ _ s)

module _ (wf_after : (st : State) (caller : ℕ) (w : Words) → w.p3 < 2 ^ 32 → wf st ≡ true → wf (after st (plan st caller w)) ≡ true) where
  -- on a sound one the rules' step is done on the state that it holds
  sound_step : (b : List ℕ) (e : Event) → Worded e → sound b ≡ true → read (step_buffer b e) ≡ step (read b) e
  unfolding happens step
  sound_step b tick u h =
      let s = sound_open b h in
      ap (λ (x : List ℕ). read (tick_outcome x).buffer) (sym s.bytes_of)
      ∙ ap (λ (o : Outcome). read o.buffer) (tick_on (read b) s.formed)
      ∙ (held (ticked (read b)) (wf_tick (read b) s.formed)).back
      ∙ sym (choose_true (wf (read b)) (ticked (read b)) (read b) s.formed)
  sound_step b (call p w) u h =
      let s = sound_open b h in
      let r = after (read b) (plan (read b) p w) in
      ap (λ (x : List ℕ). read (call_outcome x p w).buffer) (sym s.bytes_of)
      ∙ ap (λ (o : Outcome). read o.buffer) (call_on (read b) s.formed p w)
      ∙ (held r (wf_after (read b) p w u.p3 s.formed)).back
      ∙ sym (choose_true (wf (read b)) r (read b) s.formed)

  buffer_step : (b : List ℕ) (e : Event) → Worded e → (read (step_buffer b e) ≡ read b) ⊎ (read (step_buffer b e) ≡ step (read b) e)
  buffer_step b e u = go (sound b) refl
    where
      go : (x : Bool) → sound b ≡ x → (read (step_buffer b e) ≡ read b) ⊎ (read (step_buffer b e) ≡ step (read b) e)
      go true s = inr (sound_step b e u s)
      go false s = inl (unsound_step b e s)

  pub demand3_buffers_from : Demand3Buffers
  demand3_buffers_from = demand3_of read step_buffer buffer_step
