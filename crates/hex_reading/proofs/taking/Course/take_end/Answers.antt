-- `hex_reading::taking::Course::take_end` meets its contract.
use Rattle.intel_hex.specs.Reading.{end_step}
use Rattle.hex_reading.proofs.Numbers.{full_all}
use Rattle.hex_reading.proofs.taking.Course.take_end.Goals as goal

pub returns-then-full : goal.returns-then-full
unfolding end_step
returns-then-full c = rw (← full_all c.args.self.now.cells, ← c.full.ensures, c.if-full.true)

pub returns-else-full : goal.returns-else-full
unfolding end_step
returns-else-full c = rw (← full_all c.args.self.now.cells, ← c.full.ensures, c.if-full.false)
