-- `audit_bytes::objects::endpoint_stands` meets its contract: its tests are those of `endpoint_stands`, in that order.
use Rattle.std.proofs.Common.{arith}
use Rattle.std.proofs.lemmas.Grind.{common_steps}
use Rattle.words.specs.Tests.{◌&◌}
use Rattle.audit_bytes.proofs.ObjectWords.{endpoint_stands}
use Rattle.audit_bytes.proofs.objects.endpoint_stands.Goals as goal

pub returns-then-word_in-le1 : goal.returns-then-word_in-le1
unfolding ◌&◌
returns-then-word_in-le1 c = grind (arith, common_steps, endpoint_stands c.args.p.now (λ j. (c.type_inv.p j).fits) c.requires)

pub returns-else-word_in-le1 : goal.returns-else-word_in-le1
unfolding ◌&◌
returns-else-word_in-le1 c = grind (arith, common_steps, endpoint_stands c.args.p.now (λ j. (c.type_inv.p j).fits) c.requires)
