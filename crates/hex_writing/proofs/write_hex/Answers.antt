-- `hex_writing::write_hex` meets its contract.
use mathlib.Core.Path.{sym, ◌∙◌}
use borrow.Author.Tests.{le-leb, lt-leb}
use mir.Syntax.{w32}
use mir.ValLaws.{to_z-of_z}
use Rattle.intel_hex.specs.Outcomes.{write_outcome}
use Rattle.intel_hex.proofs.Trip.{sound_length}
use Rattle.hex_writing.proofs.write_hex.Goals as goal

pub returns-then-not-well_formed : goal.returns-then-not-well_formed
unfolding write_outcome
returns-then-not-well_formed c = rw (to_z-of_z w32 c.refusal_number.result (record { sfits = c.refusal_number.type_inv }), c.refusal_number.ensures, ← c.well_formed-2.ensures, c.if-not-well_formed.true)

pub returns-then-text-lt-TEXT_LENGTH : goal.returns-then-text-lt-TEXT_LENGTH
unfolding write_outcome
returns-then-text-lt-TEXT_LENGTH c = rw (← c.well_formed-2.ensures, c.if-not-well_formed.false, lt-leb _ _ c.if-text-lt-TEXT_LENGTH.true)

pub write_text-requires : goal.write_text-requires
write_text-requires c = (sound_length c.args.s.now (sym c.well_formed-2.ensures ∙ c.if-not-well_formed.false), c.if-text-lt-TEXT_LENGTH.false)

pub returns : goal.returns
unfolding write_outcome
returns c = rw (← c.well_formed-2.ensures, c.if-not-well_formed.false, le-leb _ _ c.if-text-lt-TEXT_LENGTH.false, c.write_text.ensures)
