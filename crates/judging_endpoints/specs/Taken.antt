-- The last step of a receipt: what is taken, and what stays.
use Rattle.std.specs.Prelude.{◌-◌, min, ℕ}
use Rattle.rules.specs.Calls.{most}
use Rattle.state.specs.State.{State, count_of, obj_at}
use Rattle.words.specs.Fields.{count}
use Rattle.words.specs.Try.{Try, Ok}
use Rattle.judging_endpoints.specs.Names.{Action, SetCount, Slot}

unfoldable pub taken : State → Slot → ℕ → Try Action
taken st e o = Ok (SetCount e (count (count_of (obj_at st e) - min (count_of (obj_at st e)) (most o))) (count (min (count_of (obj_at st e)) (most o))))
