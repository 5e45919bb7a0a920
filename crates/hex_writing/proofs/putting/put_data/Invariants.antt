-- `hex_writing::putting::put_data` meets its contract: k records are put, and behind them stands what was there.
use Rattle.std.proofs.Common.{true, false, ◌≡◌, length}
use Rattle.state.specs.State.{splice}
use Rattle.intel_hex.specs.Marks.{upper_line}
use Rattle.intel_hex.specs.Writing.{data_lines, sixteens}
use Rattle.hex_writing.proofs.putting.put_data.Given as goal

abbrev pub invariant-loop-k : goal.invariant-loop-k
invariant-loop-k l = record {
  same_length : length l.text ≡ length l.initial.text;
  put_so_far : l.text ≡ splice upper_line (data_lines true false 0 (sixteens l.k l.s)) l.initial.text;
}
