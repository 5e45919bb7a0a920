-- `writing::slots::fill_slots` meets its contract: the slots that were lent come back filled (`lent`).
use Rattle.std.proofs.Common.{ℕ, ◌-◌, ◌*◌, ◌++◌, replicate, ap, ◌∙◌, arith, length-append}
use lib.ListN.{length-replicate}
use Rattle.words.specs.Sizes.{slot_size}
use Rattle.state.specs.Bytes.{words_bytes}
use Rattle.writing.proofs.Stores.{lent, lent_length, length_words}
use Rattle.writing.proofs.slots.fill_slots.Goals as goal

pub returns : goal.returns
returns c =
    let a = c.args in
    let long = lent_length a.s.now (slot_size * a.k.0) (slot_size * a.n) c.requires.0 in
    let new = words_bytes a.first ++ replicate (slot_size * a.n - 12) 0 in
    lent a.s.now _ new (slot_size * a.k.0) (slot_size * a.n)
    (c.fill.ensures ∙ ap (λ k. words_bytes a.first ++ replicate (k - 12) 0) long)
    (omega (arith, length-append (words_bytes a.first) (replicate (slot_size * a.n - 12) 0), length_words a.first, length-replicate {A = ℕ} (slot_size * a.n - 12) 0))
