-- `hex_writing::putting::write_text` meets its contract: the three parts, one behind the other, are the text.
use Rattle.intel_hex.proofs.Putting.{text_done}
use Rattle.hex_writing.proofs.putting.write_text.Goals as goal

pub returns : goal.returns
returns c = rw (c.put_at-2.ensures, c.put_data.ensures, c.put_at.ensures, c.to_be_bytes.ensures) (text_done c.args.s.now c.args.text.now c.requires.0)
