-- `judging_pages::pages::frame_in` meets its contract: a power up to 2^31 does not wrap, and the caller keeps the sum below 2^32.
use Prim.Native.Nat.{◌^◌, ◌≤◌, ◌<◌}
use native.Mathlib.Omega.{arith}
use native.Mathlib.Nat.{one-mul, mod-eq_of_lt}
use lib.Pow.{pow_mono}
use Rattle.judging_pages.proofs.pages.frame_in.Goals as goal

pub overflow_mul-result : goal.overflow_mul-result
overflow_mul-result c =
    let k = c.args.order in
    let most : 2 ^ k ≤ 2147483648 = pow_mono {i = k} {j = 31} c.requires.0 in
    let fits : 2 ^ k < 4294967296 = omega arith in
    rw (one-mul, mod-eq_of_lt fits) (omega (arith, c.requires.1))

pub overflow_add-result : goal.overflow_add-result
overflow_add-result c =
    let k = c.args.order in
    let most : 2 ^ k ≤ 2147483648 = pow_mono {i = k} {j = 31} c.requires.0 in
    let fits : 2 ^ k < 4294967296 = omega arith in
    rw (one-mul, mod-eq_of_lt fits) (omega (arith, c.requires.1))

pub returns : goal.returns
returns c =
    let k = c.args.order in
    let most : 2 ^ k ≤ 2147483648 = pow_mono {i = k} {j = 31} c.requires.0 in
    let fits : 2 ^ k < 4294967296 = omega arith in
    rw (one-mul, mod-eq_of_lt fits)
