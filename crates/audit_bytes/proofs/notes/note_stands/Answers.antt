-- `audit_bytes::notes::note_stands` meets its contract: a note stands exactly where its word is clean.
use Rattle.std.proofs.Common.{ap, rules, sym, ◌∙◌}
use Rattle.audit_bytes.specs.Clean.{note_clean}
use Rattle.audit_bytes.proofs.NoteWords.{note_stands_lem}
use Rattle.audit_bytes.proofs.notes.note_stands.Goals as goal

pub returns : goal.returns
returns c =
    c.note_clean.ensures ∙ ap note_clean c.word_in.ensures
    ∙ sym (note_stands_lem c.args.s.now (λ j. (c.type_inv.s j).fits) c.requires c.args.k (search rules))
