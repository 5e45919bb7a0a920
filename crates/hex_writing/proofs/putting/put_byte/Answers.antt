-- `hex_writing::putting::put_byte` meets its contract: two stores are one part replaced.
use native.Mathlib.Omega.{arith}
use lib.ListN.{length-set}
use Rattle.intel_hex.specs.Pairs.{spelled}
use Rattle.intel_hex.proofs.Putting.{two}
use Rattle.hex_writing.proofs.putting.put_byte.Goals as goal

pub bounds-part-at-2 : goal.bounds-part-at-2
bounds-part-at-2 c = simp length-set (omega arith)

pub returns : goal.returns
unfolding spelled
returns c = rw (c.digit_for.ensures, c.digit_for-2.ensures) (two c.args.part.now c.args.at _ _ c.requires)
