-- `hex_reading::taking::Course::take_line` meets its contract.
use Rattle.intel_hex.specs.Reading.{line_step}
use Rattle.hex_reading.proofs.Lines.{readable_whole}
use Rattle.hex_reading.proofs.taking.Course.take_line.Goals as goal

pub returns-in_default-clause-step : goal.returns-in_default-clause-step
unfolding line_step
returns-in_default-clause-step c = rw c.in_default.ensures

pub returns-then-not-is_balanced-clause-step : goal.returns-then-not-is_balanced-clause-step
unfolding line_step
returns-then-not-is_balanced-clause-step c =
    let r = c.in-Some.ensures in
    rw (r.0, ← r.1, ← c.is_balanced.ensures, c.if-not-is_balanced.true)

pub take_record-requires : goal.take_record-requires
take_record-requires c = let r = c.in-Some.ensures in rw r.1 (readable_whole c.args.line.now r.0)

pub returns-clause-step : goal.returns-clause-step
unfolding line_step
returns-clause-step c =
    let r = c.in-Some.ensures in
    rw (r.0, ← r.1, ← c.is_balanced.ensures, c.if-not-is_balanced.false) c.take_record.ensures.step
