-- The same of lent buffers: a call or a tick on a sound buffer leaves a sound one, and so does a run; on the bytes of a well-formed state it
-- leaves the bytes of what it leaves of the state.
use mathlib.Core.Bool.{true}
use mathlib.Core.List.{List, [], ◌∷◌}
use mathlib.Core.Path.{◌≡◌, refl, ◌∙◌, ap, subst}
use Prim.Native.Nat.{ℕ, ◌<◌, ◌^◌}
use Rattle.state.specs.Bytes.{bytes}
use Rattle.state.specs.Read.{read}
use Rattle.state.specs.State.{State}
use Rattle.rules.specs.Buffer.{Outcome, call_outcome, sound, tick_outcome}
use Rattle.rules.specs.Run.{Event, call, happens, run_outcome, step, tick}
use Rattle.rules.specs.WellFormed.{wf}
use Rattle.rules.proofs.Lift.{call_on, sound_open, tick_on, wf_sound}
use Rattle.kept.specs.Names.{Words}
use Rattle.kept.specs.Runs.{InWord, InWords, stepped}
use Rattle.kept.proofs.Runs.{wf_step}

pub happens_on : (st : State) (e : Event) → wf st ≡ true → (happens (bytes st) e).buffer ≡ bytes (step st e)
unfolding happens step
happens_on st tick h = rw h (ap (λ (o : Outcome). o.buffer) (tick_on st h))
happens_on st (call p v) h = rw h (ap (λ (o : Outcome). o.buffer) (call_on st h p v))

-- a run on the bytes is the run on the state
pub run_on : (st : State) (es : List Event) → InWords es → wf st ≡ true → (run_outcome (bytes st) es).buffer ≡ bytes (stepped st es)
unfolding run_outcome
run_on st [] i h = refl
run_on st (e ∷ es) i h = ap (λ (b : List ℕ). (run_outcome b es).buffer) (happens_on st e h) ∙ run_on (step st e) es i.1 (wf_step st e i.0 h)

-- ---- any sound buffer
module _ (b : List ℕ) (h : sound b ≡ true) where
  pub sound_event : (e : Event) → InWord e → sound (happens b e).buffer ≡ true
  sound_event e i =
      let s = sound_open b h in
      let st = read b in
      subst (λ (x : List ℕ). sound (happens x e).buffer ≡ true) s.bytes_of (ap sound (happens_on st e s.formed) ∙ wf_sound (step st e) (wf_step st e i s.formed))

  pub sound_call : (caller : ℕ) (v : Words) → v.p3 < 2 ^ 32 → sound (call_outcome b caller v).buffer ≡ true
  unfolding happens
  sound_call caller v word = sound_event (call caller v) word

  pub sound_tick : sound (tick_outcome b).buffer ≡ true
  unfolding happens
  sound_tick = sound_event tick tt

pub sound_run : (b : List ℕ) (es : List Event) → InWords es → sound b ≡ true → sound (run_outcome b es).buffer ≡ true
unfolding run_outcome
sound_run b [] i h = h
sound_run b (e ∷ es) i h = sound_run (happens b e).buffer es i.1 (sound_event b h e i.0)
