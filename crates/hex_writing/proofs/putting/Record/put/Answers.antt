-- `hex_writing::putting::Record::put` meets its contract: five parts, one behind the other, are the line.
use Rattle.std.proofs.Common.{◌≡◌, ◌+◌, ◌*◌, length, arith}
use Rattle.intel_hex.proofs.Putting.{line_put}
use Rattle.hex_writing.proofs.putting.Record.put.Goals as goal

pub returns : goal.returns
returns c =
    let r = c.args.self.now in
    let p = c.args.part.now in
    let e : 9 + 2 * length r.bytes.now + 2 ≡ 11 + 2 * length r.bytes.now = omega arith in
    rw (e, c.put_byte.ensures, c.put_bytes-2.ensures, c.put_bytes.ensures, c.head.ensures, c.check_byte-check.ensures) (line_put p r.bytes.now r.record_type r.address c.requires)
