-- `hex_writing::putting::Record::put_at` meets its contract: the part that was lent comes back replaced.
use Rattle.std.proofs.Common.{true, false, ◌+◌, ◌*◌, length}
use Rattle.intel_hex.specs.Marks.{end_line}
use Rattle.intel_hex.specs.Records.{record_of}
use Rattle.intel_hex.specs.Writing.{line_of}
use Rattle.intel_hex.proofs.Lengths.{length_line}
use Rattle.intel_hex.proofs.Putting.{lent}
use Rattle.hex_writing.proofs.putting.Record.put_at.Goals as goal

pub returns : goal.returns
returns c =
    let r = c.args.self.now in
    lent c.args.text.now _ (line_of true false (record_of r.record_type r.address r.bytes.now)) c.args.at (end_line + 2 * length r.bytes.now) c.put.ensures (length_line true r.record_type r.address r.bytes.now)
