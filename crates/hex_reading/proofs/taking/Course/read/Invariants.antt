-- `hex_reading::taking::Course::read` meets its contract: what the lines that are left give, after those taken, decides the whole.
use Rattle.std.proofs.Common.{◌≡◌, ◌+◌, ◌≤◌, length}
use Rattle.intel_hex.specs.Lines.{lines_of}
use Rattle.intel_hex.specs.Reading.{lines_taken, read_lines}
use Rattle.hex_reading.specs.Numbers.{numbers}
use Rattle.hex_reading.proofs.taking.Course.read.Given as goal

abbrev pub invariant-loop-rest : goal.invariant-loop-rest
invariant-loop-rest l = record {
  fits : l.self.taken + length l.rest ≤ length l.text;
  text : read_lines (record { cells = numbers l.initial.self.cells; upper = l.initial.self.upper }) (lines_of l.text) ≡ read_lines (record { cells = numbers l.self.cells; upper = l.self.upper }) (lines_of l.rest);
  lines : lines_taken (record { cells = numbers l.initial.self.cells; upper = l.initial.self.upper }) (lines_of l.text) ≡ l.self.taken + lines_taken (record { cells = numbers l.self.cells; upper = l.self.upper }) (lines_of l.rest);
}

abbrev pub decreases-loop-rest : goal.decreases-loop-rest
decreases-loop-rest l = length l.rest
