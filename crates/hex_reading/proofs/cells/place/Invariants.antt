-- `hex_reading::cells::place` meets its contract: the bytes passed are placed, and the other cells are as they were.
use Rattle.std.proofs.Common.{◌≡◌, take, drop, length}
use Rattle.state.specs.State.{splice}
use Rattle.intel_hex.specs.Pairs.{pairs}
use Rattle.intel_hex.specs.Reading.{filled}
use Rattle.hex_reading.specs.Numbers.{numbers}
use Rattle.hex_reading.proofs.cells.place.Given as goal

abbrev pub invariant-loop-k : goal.invariant-loop-k
invariant-loop-k l = record {
  same_length : length l.cells ≡ length l.initial.cells;
  placed_so_far : numbers l.cells ≡ splice 0 (filled (take l.k (drop 4 (pairs l.spelled.digits.now)))) (numbers l.initial.cells);
}
