-- Demand 1: every answer of a call is listed, and a refusal leaves every byte as it was. The check says yes exactly when −19 would not be
-- given, by a tick or by any call.
use Rattle.std.proofs.Common.{◌≡◌, ℕ, Bool, true, false, List, pos, negsuc, sym, refl, ap, ◌∙◌, arith}
use mathlib.Core.Bool.{false≢true}
use Rattle.committing.proofs.Ready.{answer_fits, ready_plan}
use Rattle.passed.proofs.Given.{Sayable, is_bad_state}
use Rattle.passed.proofs.Walks.{plan_given}
use Rattle.rules.specs.Buffer.{call_outcome, outcome, refused, sound, tick_outcome}
use Rattle.rules.specs.Calls.{plan}
use Rattle.state.specs.Read.{read}
use Rattle.words.specs.Refusals.{number}
use Rattle.words.specs.Tests.{choose}
use Rattle.words.specs.Try.{Try, Err, Ok}
use Rattle.kernel.specs.Demands.{Listed, refusal, success}
use Rattle.kernel.specs.Names.{Action, BadState, Words}
use Rattle.rules.specs.Commit as Rule

outcome_listed : (b : List ℕ) (caller : ℕ) (w : Words) → sound b ≡ true → (r : Try Action) → plan (read b) caller w ≡ r → Listed (outcome b r).reply
outcome_listed b caller w s (Err r) e = refusal r refl
outcome_listed b caller w s (Ok a) e = success (Rule.success a) refl (answer_fits (read b) a (ready_plan b caller w a s e))

-- for all callers, words and buffers
pub call_listed : (b : List ℕ) (caller : ℕ) (w : Words) → Listed (call_outcome b caller w).reply
unfolding call_outcome
call_listed b caller w = go (sound b) refl
  where
    go : (t : Bool) → sound b ≡ t → Listed (choose t (outcome b (plan (read b) caller w)) (refused b)).reply
    go true s = outcome_listed b caller w s (plan (read b) caller w) refl
    go false s = refusal BadState refl

-- a negative answer leaves the buffer equal
outcome_stays : (b : List ℕ) (r : Try Action) (n : ℕ) → (outcome b r).reply ≡ negsuc n → (outcome b r).buffer ≡ b
outcome_stays b (Err r) n h = refl
outcome_stays b (Ok a) n h = absurd (let z : ◌≡◌ {A = ℕ} 0 1 = cc in omega arith)

pub refusal_stays : (b : List ℕ) (caller : ℕ) (w : Words) (n : ℕ) → (call_outcome b caller w).reply ≡ negsuc n → (call_outcome b caller w).buffer ≡ b
unfolding call_outcome
refusal_stays b caller w n = go (sound b)
  where
    go : (t : Bool) → (choose t (outcome b (plan (read b) caller w)) (refused b)).reply ≡ negsuc n → (choose t (outcome b (plan (read b) caller w)) (refused b)).buffer ≡ b
    go true h = outcome_stays b (plan (read b) caller w) n h
    go false h = refl

-- ---- the check
module _ (b : List ℕ) where
  -- "the check says yes exactly when −19 would not be given": by a tick
  pub check_ticks : (sound b ≡ true → (tick_outcome b).reply ≡ pos 0) × (sound b ≡ false → (tick_outcome b).reply ≡ number BadState)
  unfolding tick_outcome
  check_ticks = (λ h. rw h, λ h. rw h)

  -- and by any call: no plan says −19
  unsaid : (r : Try Action) → Sayable r → (outcome b r).reply ≡ number BadState → ⊥
  unsaid (Err r) s h = false≢true (sym s ∙ ap is_bad_state h)
  unsaid (Ok a) s h = false≢true (ap is_bad_state h)

  pub check_calls : (caller : ℕ) (w : Words) → ((call_outcome b caller w).reply ≡ number BadState → sound b ≡ false) × (sound b ≡ false → (call_outcome b caller w).reply ≡ number BadState)
  unfolding call_outcome
  check_calls caller w = (go (sound b), λ h. rw h)
    where
      go : (t : Bool) → (choose t (outcome b (plan (read b) caller w)) (refused b)).reply ≡ number BadState → t ≡ false
      go true h = absurd (unsaid (plan (read b) caller w) (plan_given (read b) caller w).sayable h)
      go false h = refl
