-- `writing::bytes::store_words` meets its contract: the part that was lent comes back replaced (`lent`).
use Rattle.std.proofs.Common.{◌*◌, length}
use Rattle.writing.proofs.Stores.{lent, length_words}
use Rattle.state.specs.Bytes.{words_bytes}
use Rattle.writing.proofs.bytes.store_words.Goals as goal

pub returns : goal.returns
returns c =
    let a = c.args in
    lent a.s.now _ (words_bytes a.ws.now) a.at (4 * length a.ws.now) c.put_words.ensures (length_words a.ws.now)
