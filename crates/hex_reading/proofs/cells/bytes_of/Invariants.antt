-- `hex_reading::cells::bytes_of` meets its contract: the bytes passed are those given, and behind them stands what was there.
use Rattle.std.proofs.Common.{◌≡◌, ◌++◌, take, drop, length}
use Rattle.intel_hex.specs.Reading.{given}
use Rattle.hex_reading.specs.Numbers.{numbers}
use Rattle.hex_reading.proofs.cells.bytes_of.Given as goal

abbrev pub invariant-loop-k : goal.invariant-loop-k
invariant-loop-k l = record {
  same_length : length l.state ≡ length l.initial.state;
  given_so_far : l.state ≡ take l.k (given (numbers l.cells)) ++ drop l.k l.initial.state;
}
