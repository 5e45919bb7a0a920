-- `reading::directories::positions_for` meets its contract: up to 8 the power stays far below what a word holds.
use Prim.Native.Nat.{◌<◌, ◌≤◌, ◌^◌}
use native.Mathlib.Omega.{arith}
use native.Mathlib.Nat.{one-mul, mod-eq_of_lt}
use lib.Pow.{pow_mono}
use borrow.Author.Tests.{le-leb, lt-leb}
use Rattle.state.specs.Read.{positions_for}
use Rattle.reading.proofs.directories.positions_for.Goals as goal

pub returns-then-k-le-MOST_NUMBER_ORDER : goal.returns-then-k-le-MOST_NUMBER_ORDER
unfolding positions_for
returns-then-k-le-MOST_NUMBER_ORDER c = let k = c.args.k in
    let most : 2 ^ k ≤ 256 = pow_mono {i = k} {j = 8} c.if-k-le-MOST_NUMBER_ORDER.true in
    let fits : 2 ^ k < 4294967296 = omega arith in
    rw (le-leb k 8 c.if-k-le-MOST_NUMBER_ORDER.true, one-mul, mod-eq_of_lt fits)

pub returns-else-k-le-MOST_NUMBER_ORDER : goal.returns-else-k-le-MOST_NUMBER_ORDER
unfolding positions_for
returns-else-k-le-MOST_NUMBER_ORDER c = rw (lt-leb c.args.k 8 c.if-k-le-MOST_NUMBER_ORDER.false)
