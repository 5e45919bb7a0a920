-- "Reading what we wrote returns the same state", on lent buffers; and a refusal leaves them.
use mathlib.Core.Bool.{Bool, true, false}
use mathlib.Core.List.{List, ◌++◌}
use mathlib.Core.Path.{◌≡◌, refl}
use Prim.Native.Nat.{ℕ, ◌≤◌}
use lib.Dec.{eqb, leb}
use lib.IntN.{pos}
use lib.ListN.{drop, length, take}
use lib.Seq.{take_at}
use borrow.Author.Tests.{eq-eqb, eqb-true, le-leb}
use Rattle.words.proofs.Tests.{and_left}
use Rattle.words.specs.Refusals.{number}
use Rattle.words.specs.Sizes.{state_length}
use Rattle.words.specs.Tests.{choose}
use Rattle.rules.specs.Buffer.{Outcome, refused, sound}
use Rattle.intel_hex.specs.Bytes.{AllBytes}
use Rattle.intel_hex.specs.Marks.{text_length}
use Rattle.intel_hex.specs.Names.{BadState}
use Rattle.intel_hex.specs.Outcomes.{TextOutcome, no_room, read_outcome, stored, write_outcome}
use Rattle.intel_hex.specs.Reading.{Result, faulty, gives, read_text}
use Rattle.intel_hex.specs.Writing.{written}
use Rattle.intel_hex.proofs.Back.{read_written}
use Rattle.intel_hex.proofs.Lengths.{written_length}

pub sound_length : (b : List ℕ) → sound b ≡ true → length b ≡ state_length
unfolding sound
sound_length b s = eqb-true _ _ (and_left _ _ s)

module _ (b out d : List ℕ) (s : sound b ≡ true) (bytes : AllBytes b) (room : text_length ≤ length out) (fits : length d ≡ state_length) where
  wrote : write_outcome b out ≡ record { reply = pos 0; text = written b ++ drop text_length out }
  unfolding write_outcome
  wrote = rw (s, le-leb text_length (length out) room)

  pub trip : read_outcome (take text_length (write_outcome b out).text) d ≡ record { reply = pos 0; buffer = b }
  unfolding read_outcome
  trip =
      let e = sound_length b s in
      rw (wrote, take_at (written b) (drop text_length out) text_length (written_length b e), eq-eqb _ _ fits, read_written b e bytes, s)

-- "Lent buffers are written only on success": another answer than 0 leaves the lent buffer as it was
write_stays_choice : (z y : Bool) (b out : List ℕ)
    → ((choose {A = TextOutcome} z (choose y (record { reply = pos 0; text = written b ++ drop text_length out }) (record { reply = no_room; text = out })) (record { reply = number BadState; text = out })).reply ≡ pos 0 → ⊥)
    → (choose {A = TextOutcome} z (choose y (record { reply = pos 0; text = written b ++ drop text_length out }) (record { reply = no_room; text = out })) (record { reply = number BadState; text = out })).text ≡ out
write_stays_choice true true b out h = absurd (h refl)
write_stays_choice true false b out h = refl
write_stays_choice false y b out h = refl

pub write_stays : (b out : List ℕ) → ((write_outcome b out).reply ≡ pos 0 → ⊥) → (write_outcome b out).text ≡ out
unfolding write_outcome
write_stays b out h = write_stays_choice (sound b) (leb text_length (length out)) b out h

stored_stays : (d : List ℕ) (x : Result) → ((stored d x).reply ≡ pos 0 → ⊥) → (stored d x).buffer ≡ d
stored_stays d (gives b) h = go (sound b) h
  where
    go : (z : Bool) → ((choose {A = Outcome} z (record { reply = pos 0; buffer = b }) (refused d)).reply ≡ pos 0 → ⊥) → (choose {A = Outcome} z (record { reply = pos 0; buffer = b }) (refused d)).buffer ≡ d
    go true h = absurd (h refl)
    go false h = refl
stored_stays d (faulty f) h = refl

read_stays_choice : (z : Bool) (d : List ℕ) (x : Result) → ((choose {A = Outcome} z (stored d x) (refused d)).reply ≡ pos 0 → ⊥) → (choose {A = Outcome} z (stored d x) (refused d)).buffer ≡ d
read_stays_choice true d x h = stored_stays d x h
read_stays_choice false d x h = refl

pub read_stays : (t d : List ℕ) → ((read_outcome t d).reply ≡ pos 0 → ⊥) → (read_outcome t d).buffer ≡ d
unfolding read_outcome
read_stays t d h = read_stays_choice (eqb (length d) state_length) d (read_text t) h
