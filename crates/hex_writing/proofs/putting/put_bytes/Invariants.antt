-- `hex_writing::putting::put_bytes` meets its contract: the bytes passed are spelled, and behind them stands what was there.
use Rattle.std.proofs.Common.{true, ◌≡◌, length, take}
use Rattle.state.specs.State.{splice}
use Rattle.intel_hex.specs.Pairs.{spelled}
use Rattle.hex_writing.proofs.putting.put_bytes.Given as goal

abbrev pub invariant-loop-i : goal.invariant-loop-i
invariant-loop-i l = record {
  same_length : length l.part ≡ length l.initial.part;
  spelled_so_far : l.part ≡ splice l.at (spelled true (take l.i l.bytes)) l.initial.part;
}
