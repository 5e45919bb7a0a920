-- `hex_writing::putting::sum_of` meets its contract: the sum so far, modulo 256.
use Rattle.std.proofs.Common.{refl, arith}
use Rattle.intel_hex.specs.Records.{sum_of}
use Rattle.intel_hex.proofs.RecordLaws.{sum_more}
use Rattle.hex_writing.proofs.putting.sum_of.Goals as goal

pub loop-b-init : goal.loop-b-init
unfolding sum_of
loop-b-init c = refl

pub loop-b-preserved : goal.loop-b-preserved
loop-b-preserved c = omega (arith, sum_more c.args.bytes.now c.loop-b.b-index c.loop-b-test.true, c.loop-b.invariant)
