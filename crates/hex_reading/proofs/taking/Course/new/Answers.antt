-- `hex_reading::taking::Course::new` meets its contract.
use Rattle.hex_reading.proofs.Numbers.{numbers_unset}
use Rattle.hex_reading.proofs.taking.Course.new.Goals as goal

pub returns-clause-cells : goal.returns-clause-cells
returns-clause-cells c = numbers_unset 17472
