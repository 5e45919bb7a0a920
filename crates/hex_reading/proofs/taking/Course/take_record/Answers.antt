-- `hex_reading::taking::Course::take_record` meets its contract.
use Rattle.std.proofs.Common.{arith}
use borrow.Author.Tests.{ne_eqb}
use Rattle.intel_hex.specs.Reading.{record_step}
use Rattle.hex_reading.proofs.taking.Course.take_record.Goals as goal

pub returns-in-0-clause-step : goal.returns-in-0-clause-step
unfolding record_step
returns-in-0-clause-step c = rw (← c.record_type.ensures, c.in-0.is) c.take_data.ensures.step

pub returns-in-4-clause-step : goal.returns-in-4-clause-step
unfolding record_step
returns-in-4-clause-step c = rw (← c.record_type.ensures, c.in-4.is, c.upper-self.ensures)

pub returns-in_default-clause-step : goal.returns-in_default-clause-step
unfolding record_step
returns-in_default-clause-step c =
    let t = c.record_type.result in
    rw (← c.record_type.ensures, ne_eqb t 0 (λ e. omega arith), ne_eqb t 4 (λ e. omega arith)) c.take_end.ensures
