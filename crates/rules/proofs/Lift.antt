-- From states to buffers: on the bytes of a well-formed state, the calls and the tick do what they do on the state.
use mathlib.Core.Bool.{Bool, false, false≢true, true}
use mathlib.Core.List.{List, [], ◌∷◌}
use mathlib.Core.Path.{ap, ap₂, refl, ◌≡◌}
use Prim.Native.Nat.{ℕ}
use lib.Dec.{eqb}
use lib.IntN.{pos}
use lib.ListN.{length}
use borrow.Author.Tests.{eq-eqb, eqb-true}
use Rattle.state.specs.Bytes.{bytes}
use Rattle.state.specs.Read.{read}
use Rattle.state.specs.State.{State}
use Rattle.words.proofs.Tests.{and_both, and_left, and_right}
use Rattle.words.specs.Sizes.{state_length}
use Rattle.words.specs.Try.{Try, Err, Ok}
use Rattle.rules.specs.Boot.{boot}
use Rattle.rules.specs.Buffer.{Outcome, call_outcome, outcome, same, sound, tick_outcome}
use Rattle.rules.specs.Calls.{plan}
use Rattle.rules.specs.Commit.{after, answer, ticked}
use Rattle.rules.specs.Names.{Action, Words}
use Rattle.rules.specs.WellFormed.{wf}
use Rattle.rules.proofs.Held.{held}
use Rattle.rules.proofs.Worked.{wf_boot}

pub same_self : (l : List ℕ) → same l l ≡ true
unfolding same
same_self [] = refl
same_self (x ∷ xs) = rw (eq-eqb x x refl, same) (same_self xs)

pub same_eq : (xs ys : List ℕ) → same xs ys ≡ true → xs ≡ ys
unfolding same
same_eq [] [] h = refl
same_eq [] (y ∷ ys) h = absurd (false≢true h)
same_eq (x ∷ xs) [] h = absurd (false≢true h)
same_eq (x ∷ xs) (y ∷ ys) h = go (eqb x y) refl (same_eq xs ys)
  where
    go : (t : Bool) → eqb x y ≡ t → (same xs ys ≡ true → xs ≡ ys) → x ∷ xs ≡ y ∷ ys
    go true e rest = ap₂ (λ (a : ℕ) (l : List ℕ). a ∷ l) (eqb-true x y e) (rest (rw (e, same) at h))
    go false e rest = absurd (false≢true (rw (e, same) at h))

-- ---- what a sound buffer is: the bytes of the well-formed state that it holds
pub record Sound (b : List ℕ) : Type 0 where
  pub size : length b ≡ state_length
  pub bytes_of : bytes (read b) ≡ b
  pub formed : wf (read b) ≡ true

pub sound_open : (b : List ℕ) → sound b ≡ true → Sound b
unfolding sound
sound_open b h = record { size = eqb-true _ _ (and_left _ _ h); bytes_of = same_eq (bytes (read b)) b (and_left _ _ (and_right _ _ h)); formed = and_right _ _ (and_right _ _ h) }

pub sound_close : (b : List ℕ) → Sound b → sound b ≡ true
unfolding sound
sound_close b s = and_both _ _ (eq-eqb _ _ s.size) (and_both _ _ (rw s.bytes_of (same_self b)) s.formed)

-- the bytes of a well-formed state are sound
pub wf_sound : (st : State) → wf st ≡ true → sound (bytes st) ≡ true
wf_sound st h =
    let s = held st h in
    sound_close (bytes st) (record { size = s.size; bytes_of = ap bytes s.back; formed = rw s.back h })

-- ---- boot, the tick and the calls there
pub read_boot : read (bytes boot) ≡ boot
read_boot = (held boot wf_boot).back

pub sound_boot : sound (bytes boot) ≡ true
sound_boot = wf_sound boot wf_boot

abbrev on : State → Try Action → Outcome
on st r = record { reply = answer r; buffer = bytes (after st r) }

outcome_on : (st : State) (r : Try Action) → read (bytes st) ≡ st → outcome (bytes st) r ≡ on st r
outcome_on st (Err r) h = refl
outcome_on st (Ok a) h = rw h

pub call_on : (st : State) → wf st ≡ true → (caller : ℕ) (w : Words) → call_outcome (bytes st) caller w ≡ record { reply = answer (plan st caller w); buffer = bytes (after st (plan st caller w)) }
unfolding call_outcome
call_on st h caller w = let b = (held st h).back in rw (wf_sound st h, b) (outcome_on st (plan st caller w) b)

pub tick_on : (st : State) → wf st ≡ true → tick_outcome (bytes st) ≡ record { reply = pos 0; buffer = bytes (ticked st) }
unfolding tick_outcome
tick_on st h = rw (wf_sound st h, (held st h).back)
