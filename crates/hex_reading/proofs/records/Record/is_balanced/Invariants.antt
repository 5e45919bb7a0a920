-- `hex_reading::records::Record::is_balanced` meets its contract: the sum so far, modulo 256.
use Rattle.std.proofs.Common.{◌≡◌, ◌%◌, take}
use Rattle.intel_hex.specs.Pairs.{pairs}
use Rattle.intel_hex.specs.Records.{sum_of}
use Rattle.hex_reading.proofs.records.Record.is_balanced.Given as goal

abbrev pub invariant-loop-k : goal.invariant-loop-k
invariant-loop-k l = l.sum ≡ sum_of (take l.k (pairs l.self.digits.now)) % 256
