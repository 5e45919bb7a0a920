-- `hex_writing::putting::Record::check_byte` meets its contract.
use Rattle.std.proofs.Common.{arith}
use Rattle.intel_hex.specs.Records.{sum_of}
use Rattle.hex_writing.proofs.putting.Record.check_byte.Goals as goal

pub returns : goal.returns
unfolding sum_of
returns c = omega (arith, rw c.head-head.ensures at c.sum_of.ensures, c.sum_of-2.ensures, c.wrapping_neg.ensures)
