-- `audit_bytes::notes::notes_stand` meets its contract: it asks each note that is used, and the notes of zeros behind them stand.
use Rattle.std.proofs.Common.{ap, arith, refl, rules, tests, Bool, false, true, ℕ, ◌∙◌, ◌≡◌}
use Rattle.std.proofs.lemmas.Iterator.{YieldsList-from_range, cases_from_all}
use Rattle.words.specs.Fields.{slot}
use Rattle.words.specs.Sizes.{slot_count}
use Rattle.words.specs.Tests.{all_below}
use Rattle.words.proofs.Tests.{all_at, all_of, iff}
use Rattle.audit_entries.proofs.Vacant.{vacant_all}
use Rattle.audit_bytes.specs.Clean.{note_clean}
use Rattle.audit_bytes.specs.Stands.{note_stands}
use Rattle.audit_bytes.proofs.NoteWords.{note_stands_lem}
use Rattle.audit_bytes.proofs.Tests.{all_ranged}
use Rattle.audit_bytes.proofs.notes.notes_stand.Goals as goal

pub returns : goal.returns
unfolding note_clean
returns c =
    let p : ℕ → Bool = λ k. note_stands c.args.s.now (slot k) in
    let here : c.all.result ≡ all_below c.args.n p =
    all_ranged c.args.n p c.all.result
    (cases_from_all _ _ _ (λ k. p k ≡ true) (λ k. p k ≡ false) c.all.ensures.ran (YieldsList-from_range 0 c.args.n c.args.n refl (omega arith))
    (λ x q k. search (rules, tests)) (λ x q k. search (rules, tests))) in
    here
    ∙ iff _ _
    (λ h. vacant_all _ c.args.n c.requires.1 p h
    (λ k g l. note_stands_lem c.args.s.now (λ j. (c.type_inv.s j).fits) c.requires.0 (slot k) l ∙ ap note_clean (c.requires.1.blank k g l)))
    (λ h. all_of c.args.n p (λ k l. all_at slot_count p h k (omega (arith, c.requires.1.few))))
