-- `hex_reading::records::Record::is_whole` meets its contract.
use Rattle.std.proofs.Common.{◌∙◌, ◌+◌, ◌/◌, length}
use borrow.Author.Tests.{eq-eqb, ne_eqb}
use Rattle.words.specs.Tests.{◌&◌}
use Rattle.intel_hex.specs.Records.{whole}
use Rattle.intel_hex.proofs.Finding.{length_pairs}
use Rattle.hex_reading.proofs.records.Record.is_whole.Goals as goal

pub returns-then-self-n : goal.returns-then-self-n
unfolding whole ◌&◌
returns-then-self-n c =
    let d = c.args.self.now.digits.now in
    rw (length_pairs d, ← (c.from-n.ensures ∙ c.length.ensures), eq-eqb (length d / 2) (c.from-n.result + 5) c.if-self-n.true, ← c.record_type.ensures) c.length_fits.ensures

pub returns-else-self-n : goal.returns-else-self-n
unfolding whole ◌&◌
returns-else-self-n c =
    let d = c.args.self.now.digits.now in
    rw (length_pairs d, ← (c.from-n.ensures ∙ c.length.ensures), ne_eqb (length d / 2) (c.from-n.result + 5) c.if-self-n.false)
