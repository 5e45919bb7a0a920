-- `writing::notes::fill_notes` meets its contract: the first note stored over the later ones (`notes_put`).
use Rattle.std.proofs.Common.{◌+◌, ◌*◌, ap, ◌∙◌, arith}
use Rattle.state.specs.State.{splice}
use Rattle.state.specs.Bytes.{le32}
use Rattle.writing.proofs.Runs.{notes_put}
use Rattle.writing.proofs.notes.fill_notes.Goals as goal

pub returns : goal.returns
returns c =
    let a = c.args in
    c.put_word.ensures ∙ ap (splice 0 (le32 (a.tag + 256 * a.argument))) c.put_run.ensures
    ∙ notes_put a.k a.n a.tag a.argument (omega arith) (omega arith) (omega arith) c.requires.1
