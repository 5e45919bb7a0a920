-- `writing::notes::clear_notes` meets its contract: the notes that were lent come back as zeros (`cleared`).
use Rattle.std.proofs.Common.{◌+◌, ◌*◌}
use Rattle.words.specs.Sizes.{memory_length}
use Rattle.writing.proofs.Runs.{cleared}
use Rattle.writing.proofs.notes.clear_notes.Goals as goal

pub returns : goal.returns
returns c = let a = c.args in
    cleared a.s.now _ (memory_length + 4 * a.k.0) (4 * a.n) c.requires (c.fill.ensures.after (λ y e. e))
