-- `hex_reading::records::Record::is_balanced` meets its contract: the sum so far, modulo 256.
use Rattle.std.proofs.Common.{refl, arith}
use lib.Seq.{take_all}
use Rattle.intel_hex.specs.Pairs.{pairs}
use Rattle.intel_hex.specs.Records.{sum_of}
use Rattle.intel_hex.proofs.Finding.{length_pairs}
use Rattle.intel_hex.proofs.RecordLaws.{sum_more}
use Rattle.hex_reading.proofs.records.Record.is_balanced.Goals as goal

pub loop-k-init : goal.loop-k-init
unfolding sum_of
loop-k-init c = refl

pub loop-k-preserved : goal.loop-k-preserved
loop-k-preserved c =
    let d = c.args.self.now.digits.now in
    omega (arith, sum_more (pairs d) c.loop-k.k (omega (arith, length_pairs d)), c.byte-sum.ensures, c.loop-k.invariant)

pub returns : goal.returns
returns c =
    let d = c.args.self.now.digits.now in
    rw (c.loop-k.invariant, take_all c.loop-k.k (pairs d) (omega (arith, length_pairs d)))
