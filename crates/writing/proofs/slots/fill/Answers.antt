-- `writing::slots::fill` meets its contract: the first words stored over zeros (`first_put`).
use Rattle.std.proofs.Common.{◌≡◌, ◌-◌, ◌*◌, ◌++◌, length, replicate, ap, ◌∙◌, arith}
use Rattle.state.specs.State.{splice}
use Rattle.state.specs.Bytes.{words_bytes}
use Rattle.writing.proofs.Runs.{first_put}
use Rattle.writing.proofs.slots.fill.Goals as goal

pub returns : goal.returns
returns c =
    let a = c.args in
    let three : length a.part.now - 4 * length a.first ≡ length a.part.now - 12 = omega arith in
    c.store_words.ensures ∙ ap (splice 0 (words_bytes a.first)) (c.fill.ensures.after (λ y e. e))
    ∙ first_put a.first (length a.part.now) ∙ ap (λ k. words_bytes a.first ++ replicate k 0) three
