-- Runs: calls and ticks one after the other, on states and on lent buffers.
use Rattle.std.specs.Prelude.{List, [], ◌∷◌, ℕ, ℤ}
use Rattle.state.specs.State.{State}
use Rattle.words.specs.Tests.{choose}
use Rattle.rules.specs.Buffer.{Outcome, call_outcome, tick_outcome}
use Rattle.rules.specs.Calls.{plan}
use Rattle.rules.specs.Commit.{after, ticked}
use Rattle.rules.specs.Names.{Words}
use Rattle.rules.specs.WellFormed.{wf}

pub data Event : Type 0 where
  tick : Event
  call : (caller : ℕ) → Words → Event

-- what an event leaves of a well-formed state; a refused call changes nothing
unfoldable pub step : State → Event → State
step st tick = choose (wf st) (ticked st) st
step st (call p w) = choose (wf st) (after st (plan st p w)) st

-- the same on a lent buffer, with the answer
unfoldable pub happens : List ℕ → Event → Outcome
happens b tick = tick_outcome b
happens b (call p w) = call_outcome b p w

pub record Replies : Type 0 where
  pub replies : List ℤ
  pub buffer : List ℕ

-- each event acts on the buffer that those before it left
unfoldable pub run_outcome : List ℕ → List Event → Replies
run_outcome b [] = record { replies = []; buffer = b }
run_outcome b (e ∷ es) = let o = happens b e in let r = run_outcome o.buffer es in record { replies = o.reply ∷ r.replies; buffer = r.buffer }
