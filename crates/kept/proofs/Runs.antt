-- "a tick or any call on such a state leaves one", one after the other: a run keeps a state well formed.
use mathlib.Core.Bool.{true}
use mathlib.Core.List.{List, [], ◌∷◌}
use mathlib.Core.Path.{◌≡◌}
use Rattle.state.specs.State.{State}
use Rattle.rules.specs.Run.{Event, call, step, tick}
use Rattle.rules.specs.WellFormed.{wf}
use Rattle.rules.proofs.Clock.{wf_tick}
use Rattle.kept.specs.Runs.{InWord, InWords, stepped}
use Rattle.kept.proofs.Kept.{wf_after}

pub wf_step : (st : State) (e : Event) → InWord e → wf st ≡ true → wf (step st e) ≡ true
unfolding step
wf_step st tick i h = rw h (wf_tick st h)
wf_step st (call p v) i h = rw h (wf_after st p v i h)

pub wf_run : (st : State) (es : List Event) → InWords es → wf st ≡ true → wf (stepped st es) ≡ true
wf_run st [] i h = h
wf_run st (e ∷ es) i h = wf_run (step st e) es i.1 (wf_step st e i.0 h)
