-- `writing::notes::store_notes` meets its contract: the notes that were lent come back filled (`lent`).
use Rattle.std.proofs.Common.{◌+◌, ◌-◌, ◌*◌, ◌++◌, replicate, arith}
use lib.ListN.{length-replicate}
use Rattle.words.specs.Sizes.{memory_length}
use Rattle.state.specs.State.{body}
use Rattle.state.specs.Bytes.{each, note_of, note_bytes}
use Rattle.state.proofs.Sizes.{notes_length}
use Rattle.writing.proofs.Stores.{lent}
use Rattle.writing.proofs.notes.store_notes.Goals as goal

pub returns : goal.returns
returns c =
    let a = c.args in
    let later = replicate (a.n - 1) (body a.k) in
    lent a.s.now _ (note_of a.tag a.argument ++ each note_bytes later) (memory_length + 4 * a.k.0) (4 * a.n) c.fill_notes.ensures
    (omega (arith, notes_length later, length-replicate (a.n - 1) (body a.k)))
