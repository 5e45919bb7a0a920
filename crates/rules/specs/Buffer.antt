-- The rules on a lent buffer: the check, boot, the tick, the calls. Each gives the answer and the whole buffer afterwards.
use Rattle.std.specs.Prelude.{Bool, false, true, List, [], ◌∷◌, ℕ, eqb, pos, ℤ, length}
use Rattle.state.specs.Bytes.{bytes}
use Rattle.state.specs.Read.{read}
use Rattle.words.specs.Refusals.{number}
use Rattle.words.specs.Sizes.{state_length}
use Rattle.words.specs.Tests.{◌&◌, choose}
use Rattle.words.specs.Try.{Try, Err, Ok}
use Rattle.rules.specs.Boot.{boot}
use Rattle.rules.specs.Calls.{plan}
use Rattle.rules.specs.Commit.{after, answer, ticked}
use Rattle.rules.specs.Names.{Action, BadState, Words}
use Rattle.rules.specs.WellFormed.{wf}

unfoldable pub same : List ℕ → List ℕ → Bool
same [] [] = true
same [] (y ∷ ys) = false
same (x ∷ xs) [] = false
same (x ∷ xs) (y ∷ ys) = elim (eqb x y) [ true ↦ same xs ys | false ↦ false ]

-- "exactly 17,472 bytes"; "free and unused bytes are zero": the buffer is the bytes of the state it holds; and that state is well formed
unfoldable pub sound : List ℕ → Bool
sound b = eqb (length b) state_length & same (bytes (read b)) b & wf (read b)

pub record Outcome : Type 0 where
  pub reply : ℤ
  pub buffer : List ℕ

-- "A refusal changes nothing."
abbrev pub refused : List ℕ → Outcome
refused b = record { reply = number BadState; buffer = b }

-- "Boot refuses only a wrong length"
unfoldable pub boot_outcome : List ℕ → Outcome
boot_outcome b = choose (eqb (length b) state_length) (record { reply = pos 0; buffer = bytes boot }) (refused b)

-- "the tick what a call would, both with −19"
unfoldable pub tick_outcome : List ℕ → Outcome
tick_outcome b = choose (sound b) (record { reply = pos 0; buffer = bytes (ticked (read b)) }) (refused b)

abbrev pub outcome : List ℕ → Try Action → Outcome
outcome b (Err r) = record { reply = number r; buffer = b }
outcome b (Ok a) = record { reply = answer (Ok a); buffer = bytes (after (read b) (Ok a)) }

unfoldable pub call_outcome : List ℕ → ℕ → Words → Outcome
call_outcome b caller w = choose (sound b) (outcome b (plan (read b) caller w)) (refused b)
