-- `writing::bytes::put_word` meets its contract: the four bytes that were lent come back as the word's (`lent`).
use Rattle.std.proofs.Common.{refl, ◌∙◌}
use Rattle.state.specs.Bytes.{le32}
use Rattle.writing.proofs.Digits.{le32_bytes}
use Rattle.writing.proofs.Stores.{lent}
use Rattle.writing.proofs.bytes.put_word.Goals as goal

pub returns : goal.returns
returns c = let a = c.args in
    lent a.s.now _ (le32 a.v) a.at 4 (c.copy_from_slice.ensures.after ∙ c.to_le_bytes.ensures ∙ le32_bytes a.v) refl
