-- A value that is one where the note has the tag, and another where it has not, is `if_tagged` of the two.
use Rattle.std.proofs.Common.{◌≡◌, ◌<◌, ◌≤◌, List, ℕ, sym, arith}
use native.Mathlib.Decide.{ℕ_discrete}
use borrow.Author.Tests.{eq-eqb, ne_eqb}
use Rattle.words.specs.Sizes.{slot_count}
use Rattle.state.specs.State.{entries_in}
use Rattle.state.specs.Read.{read}
use Rattle.state.proofs.Look.{tag_byte, argument_byte, entries_known, entries_none}
use Rattle.reading.specs.Names.{Slot}
use Rattle.reading.specs.Tagged.{if_tagged}

pub tagged : {A : Type 0} (b : List ℕ) (k tag : ℕ) (here none v : A) → (tag_byte b k ≡ tag → v ≡ here) → ((tag_byte b k ≡ tag → ⊥) → v ≡ none)
    → if_tagged b k tag here none ≡ v
tagged b k tag here none v yes-there no-there = elim (ℕ_discrete (tag_byte b k) tag) [
  | yes e ↦ rw (eq-eqb _ _ e) (sym (yes-there e))
  | no d ↦ rw (ne_eqb _ _ d) (sym (no-there d))
]

-- a table that is read from a buffer of bytes has at most 255 entries, as many as its note's byte can tell
pub few_entries : (b : List ℕ) (t : Slot) → t.0 < slot_count → argument_byte b t.0 < 256 → entries_in (read b) t ≤ 255
few_entries b t h f = elim (ℕ_discrete (tag_byte b t.0) 2) [
  | yes e ↦ omega (arith, entries_known b t h e)
  | no d ↦ omega (arith, entries_none b t h d)
]
