-- `hex_writing::putting::put_data` meets its contract: k records are put, and behind them stands what was there.
use Rattle.std.proofs.Common.{◌≡◌, ◌+◌, ◌-◌, ◌*◌, refl, arith}
use Rattle.intel_hex.specs.Marks.{piece_length}
use Rattle.intel_hex.proofs.Putting.{data_next, data_none}
use Rattle.hex_writing.proofs.putting.put_data.Goals as goal

pub loop-k-init : goal.loop-k-init
loop-k-init c = record { same_length = refl; put_so_far = data_none c.args.s.now c.args.text.now }

pub loop-k-preserved : goal.loop-k-preserved
loop-k-preserved c =
    let k = c.loop-k.k in
    let e : piece_length * k + piece_length - piece_length * k ≡ piece_length = omega arith in record {
      same_length = omega arith;
      put_so_far = rw (c.put_at.ensures, c.loop-k.invariant.put_so_far, e) (data_next c.args.s.now c.args.text.now k (omega arith) (omega arith));
    }
