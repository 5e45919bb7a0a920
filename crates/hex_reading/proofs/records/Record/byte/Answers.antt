-- `hex_reading::records::Record::byte` meets its contract: two digits for each byte.
use Rattle.std.proofs.Common.{◌+◌, ◌*◌, sym, arith}
use Rattle.std.proofs.Math.ListN.{get_or-eq_default}
use Rattle.intel_hex.specs.Pairs.{pairs}
use Rattle.intel_hex.proofs.Finding.{hex_at, length_pairs, pairs_at}
use Rattle.hex_reading.proofs.records.Record.byte.Goals as goal

pub returns-then-self-k : goal.returns-then-self-k
returns-then-self-k c =
    let d = c.args.self.now.digits.now in
    sym (get_or-eq_default (pairs d) 0 (omega (arith, length_pairs d, c.if-self-k.true)))

pub overflow_mul-result : goal.overflow_mul-result
overflow_mul-result c =
    let r = c.args.self.now in
    omega (arith, c.digit.ensures, hex_at r.digits.now (2 * c.args.k) r.hex (omega arith))

pub overflow_add-result : goal.overflow_add-result
overflow_add-result c =
    let r = c.args.self.now in
    omega (arith, c.digit.ensures, c.digit-2.ensures, hex_at r.digits.now (2 * c.args.k) r.hex (omega arith), hex_at r.digits.now (2 * c.args.k + 1) r.hex (omega arith))

pub returns : goal.returns
returns c = rw (c.digit.ensures, c.digit-2.ensures) (sym (pairs_at c.args.self.now.digits.now c.args.k (omega arith)))
