-- `judging_pages::pages::is_index` meets its contract: a power below 2^32 does not wrap, and every index is below a larger one.
use mathlib.Core.Path.{sym}
use Prim.Native.Nat.{◌^◌, ◌≤◌, ◌<◌}
use native.Mathlib.Omega.{arith}
use native.Mathlib.Nat.{one-mul, mod-eq_of_lt}
use lib.Pow.{pow_mono, pow-lt}
use borrow.Author.Tests.{lt-ltb}
use borrow.Author.Rules.{rules}
use Rattle.judging_pages.proofs.pages.is_index.Goals as goal

pub returns-then-difference-ge32 : goal.returns-then-difference-ge32
returns-then-difference-ge32 c =
    let d = c.args.difference in
    let most : 4294967296 ≤ 2 ^ d = pow_mono {i = 32} {j = d} c.if-difference-ge32.true in
    let word : c.args.index < 4294967296 = search rules in
    sym (lt-ltb c.args.index (2 ^ d) (omega arith))

pub returns : goal.returns
returns c =
    let d = c.args.difference in
    let fits : 2 ^ d < 4294967296 = pow-lt {i = d} {j = 32} c.if-difference-ge32.false in
    rw (one-mul, mod-eq_of_lt fits)
