-- `audit_bytes::objects::process_stands` meets its contract: its tests are those of `process_stands`, in that order.
use Rattle.std.proofs.Common.{arith}
use Rattle.std.proofs.lemmas.Grind.{common_steps}
use Rattle.words.specs.Tests.{◌&◌}
use Rattle.audit_bytes.proofs.ObjectWords.{process_stands}
use Rattle.audit_bytes.proofs.objects.process_stands.Goals as goal

pub returns-then-word_in-lt-SLOT_COUNT_U32-2 : goal.returns-then-word_in-lt-SLOT_COUNT_U32-2
unfolding ◌&◌
returns-then-word_in-lt-SLOT_COUNT_U32-2 c = grind (arith, common_steps, process_stands c.args.p.now (λ j. (c.type_inv.p j).fits) c.requires)

pub returns-else-word_in-lt-SLOT_COUNT_U32-2 : goal.returns-else-word_in-lt-SLOT_COUNT_U32-2
unfolding ◌&◌
returns-else-word_in-lt-SLOT_COUNT_U32-2 c = grind (arith, common_steps, process_stands c.args.p.now (λ j. (c.type_inv.p j).fits) c.requires)
