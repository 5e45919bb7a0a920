-- `hex_writing::putting::put_bytes` meets its contract: the bytes passed are spelled, and behind them stands what was there.
use Rattle.std.proofs.Common.{refl, arith}
use Rattle.intel_hex.proofs.Putting.{put_more, put_none}
use Rattle.hex_writing.proofs.putting.put_bytes.Goals as goal

pub loop-i-init : goal.loop-i-init
loop-i-init c = let a = c.args in record { same_length = refl; spelled_so_far = put_none a.part.now a.bytes.now a.at }

pub loop-i-preserved : goal.loop-i-preserved
loop-i-preserved c =
    let a = c.args in record {
      same_length = omega arith;
      spelled_so_far = rw (c.put_byte.ensures, c.loop-i.invariant.spelled_so_far) (put_more a.part.now a.bytes.now a.at c.loop-i.i c.loop-i-test.true (omega arith));
    }
