-- `audit_bytes::objects::objects_stand` meets its contract: each turn passes one slot, the used ones first and then the free ones behind them.
use Rattle.std.proofs.Common.{arith, sym, ◌∙◌}
use Rattle.words.proofs.Tests.{all_zero}
use Rattle.words.specs.Fields.{slot}
use Rattle.audit_bytes.specs.Stands.{object_stands}
use Rattle.audit_bytes.proofs.SlotParts.{vacant_stands}
use Rattle.audit_bytes.proofs.Tests.{all_next, all_stopped}
use Rattle.audit_bytes.proofs.objects.objects_stand.Goals as goal

pub loop-k-init : goal.loop-k-init
loop-k-init c = all_zero _

pub returns-then-not-object_stands : goal.returns-then-not-object_stands
returns-then-not-object_stands c =
    all_stopped 256 (λ j. object_stands c.args.s.now (slot j)) c.loop-k.k (omega (arith, c.requires.2.few)) (sym c.object_stands.ensures ∙ c.if-not-object_stands.true)

pub loop-k-preserved : goal.loop-k-preserved
loop-k-preserved c =
    all_next c.loop-k.k (λ j. object_stands c.args.s.now (slot j)) c.loop-k.invariant (sym c.object_stands.ensures ∙ c.if-not-object_stands.false)

pub returns-then-not-zeros_in : goal.returns-then-not-zeros_in
returns-then-not-zeros_in c =
    let k = c.loop-k-2.k in
    let here = vacant_stands c.args.s.now (λ j. (c.type_inv.s j).fits) c.requires.0 c.args.n c.requires.2 k (omega arith) (omega arith) in
    all_stopped 256 (λ j. object_stands c.args.s.now (slot j)) k (omega arith) (sym here ∙ sym c.zeros_in.ensures ∙ c.if-not-zeros_in.true)

pub loop-k-2-preserved : goal.loop-k-2-preserved
loop-k-2-preserved c =
    let k = c.loop-k-2.k in
    let here = vacant_stands c.args.s.now (λ j. (c.type_inv.s j).fits) c.requires.0 c.args.n c.requires.2 k (omega arith) (omega arith) in
    all_next k (λ j. object_stands c.args.s.now (slot j)) c.loop-k-2.invariant (sym here ∙ sym c.zeros_in.ensures ∙ c.if-not-zeros_in.false)
