-- `audit_bytes::places::place_stands` meets its contract: the words that it reads are those that `place_right` and `place_blank` name.
use Rattle.std.proofs.Common.{arith, sym, ◌∙◌}
use Rattle.std.proofs.lemmas.Grind.{common_steps}
use Rattle.words.specs.Tests.{◌&◌}
use Rattle.audit_bytes.proofs.PlaceWords.{place_blank, place_right}
use Rattle.audit_bytes.proofs.places.place_stands.Goals as goal

pub returns-then-kind-eq-BLANK : goal.returns-then-kind-eq-BLANK
returns-then-kind-eq-BLANK c =
    c.zeros_in.ensures
    ∙ sym (place_blank c.args.p.now (λ j. (c.type_inv.p j).fits) c.args.at c.requires (sym c.word_in-kind.ensures ∙ c.if-kind-eq-BLANK.true))

pub returns-then-kind_clean : goal.returns-then-kind_clean
unfolding ◌&◌
returns-then-kind_clean c =
    grind (arith, common_steps, place_right c.args.p.now (λ j. (c.type_inv.p j).fits) c.args.at c.requires (λ z. c.if-kind-eq-BLANK.false (c.word_in-kind.ensures ∙ z)))

pub returns-else-kind_clean : goal.returns-else-kind_clean
unfolding ◌&◌
returns-else-kind_clean c =
    grind (arith, common_steps, place_right c.args.p.now (λ j. (c.type_inv.p j).fits) c.args.at c.requires (λ z. c.if-kind-eq-BLANK.false (c.word_in-kind.ensures ∙ z)))
