-- `writing::slots::clear_slots` meets its contract: the slots that were lent come back as zeros (`cleared`).
use Rattle.std.proofs.Common.{◌*◌}
use Rattle.words.specs.Sizes.{slot_size}
use Rattle.writing.proofs.Runs.{cleared}
use Rattle.writing.proofs.slots.clear_slots.Goals as goal

pub returns : goal.returns
returns c = let a = c.args in
    cleared a.s.now _ (slot_size * a.k.0) (slot_size * a.n) c.requires (c.fill.ensures.after (λ y e. e))
