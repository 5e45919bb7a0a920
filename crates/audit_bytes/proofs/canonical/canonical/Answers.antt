-- `audit_bytes::canonical::canonical` meets its contract: its tests are those of `canonical_parts`, in that order.
use Rattle.std.proofs.Common.{arith}
use Rattle.std.proofs.lemmas.Grind.{common_steps}
use Rattle.words.specs.Tests.{◌&◌}
use Rattle.audit_bytes.proofs.Whole.{canonical_parts}
use Rattle.audit_bytes.proofs.canonical.canonical.Goals as goal

pub returns-then-zeros_in : goal.returns-then-zeros_in
unfolding ◌&◌
returns-then-zeros_in c = grind (arith, common_steps, canonical_parts c.args.s.now (λ j. (c.type_inv.s j).fits) c.requires.0 c.requires.1)

pub returns-else-zeros_in : goal.returns-else-zeros_in
unfolding ◌&◌
returns-else-zeros_in c = grind (arith, common_steps, canonical_parts c.args.s.now (λ j. (c.type_inv.s j).fits) c.requires.0 c.requires.1)
