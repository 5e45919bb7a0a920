-- `hex_reading::lines_taken` meets its contract.
use Rattle.intel_hex.specs.Reading.{taken_of}
use Rattle.hex_reading.proofs.lines_taken.Goals as goal

pub returns : goal.returns
unfolding taken_of
returns c = rw (c.new-course.ensures.cells, c.new-course.ensures.upper) at c.read.ensures.lines
