-- `hex_reading::records::Record::of_line` meets its contract.
use Rattle.words.proofs.Tests.{and_left, and_right}
use Rattle.words.specs.Tests.{◌&◌}
use borrow.Author.Tests.{eqb-true}
use Rattle.intel_hex.specs.Lines.{readable, spells}
use Rattle.hex_reading.proofs.records.Record.of_line.Goals as goal

pub returns-in_err-body : goal.returns-in_err-body
unfolding readable ◌&◌
returns-in_err-body c = rw c.from_residual.ensures (rw c.in_err-body.ensures)

pub returns-in_err-digits : goal.returns-in_err-digits
unfolding readable ◌&◌
returns-in_err-digits c =
    let b = c.in_ok-body.ensures in
    rw c.from_residual-in_err-digits.ensures (rw (b.0, ← b.1, c.in_err-digits.ensures))

pub invariant_of-record : goal.invariant_of-record
unfolding spells
invariant_of-record c =
    let d = c.in_ok-digits.ensures in record {
      hex = rw d.1 (and_left _ _ (and_right _ _ d.0));
      paired = rw d.1 (eqb-true _ _ (and_right _ _ (and_right _ _ d.0)));
    }

pub returns-then-is_whole : goal.returns-then-is_whole
unfolding readable ◌&◌
returns-then-is_whole c =
    let b = c.in_ok-body.ensures in
    let d = c.in_ok-digits.ensures in
    (rw (b.0, ← b.1, d.0, ← d.1, ← c.is_whole.ensures, c.if-is_whole.true), rw (← b.1) d.1)

pub returns-else-is_whole : goal.returns-else-is_whole
unfolding readable ◌&◌
returns-else-is_whole c =
    let b = c.in_ok-body.ensures in
    let d = c.in_ok-digits.ensures in
    rw (b.0, ← b.1, d.0, ← d.1, ← c.is_whole.ensures, c.if-is_whole.false)
