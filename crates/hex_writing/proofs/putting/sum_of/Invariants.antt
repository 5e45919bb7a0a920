-- `hex_writing::putting::sum_of` meets its contract: the sum so far, modulo 256.
use Rattle.std.proofs.Common.{◌≡◌, ◌%◌, take}
use Rattle.intel_hex.specs.Records.{sum_of}
use Rattle.hex_writing.proofs.putting.sum_of.Given as goal

abbrev pub invariant-loop-b : goal.invariant-loop-b
invariant-loop-b l = l.sum ≡ sum_of (take l.b-index l.bytes) % 256
