-- `audit_bytes::directories::position_stands` meets its contract: a position stands exactly where its two words are clean.
use Rattle.std.proofs.Common.{ap₂, sym, ◌∙◌}
use Rattle.audit_bytes.specs.Clean.{position_clean}
use Rattle.audit_bytes.proofs.PositionWords.{position_stands_lem}
use Rattle.audit_bytes.proofs.directories.position_stands.Goals as goal

pub returns : goal.returns
returns c =
    c.position_clean.ensures ∙ ap₂ position_clean c.word_in.ensures c.word_in-2.ensures
    ∙ sym (position_stands_lem c.args.p.now (λ j. (c.type_inv.p j).fits) c.args.at c.requires)
