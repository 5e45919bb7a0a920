-- Runs of events on states, for the theorems on runs.
use Rattle.std.specs.Prelude.{List, [], ◌∷◌, ◌<◌, ◌^◌}
use Rattle.state.specs.State.{State}
use Rattle.rules.specs.Run.{Event, call, step, tick}

-- each event acts on what those before it left
abbrev pub stepped : State → List Event → State
stepped st [] = st
stepped st (e ∷ es) = stepped (step st e) es

-- "32-bit words": P3 alone is stored as it stands, as a directory's start, so nothing is asked of the others
abbrev pub InWord : Event → Type 0
InWord tick = Unit {0}
InWord (call p v) = v.p3 < 2 ^ 32

abbrev pub InWords : List Event → Type 0
InWords [] = Unit {0}
InWords (e ∷ es) = InWord e × InWords es
