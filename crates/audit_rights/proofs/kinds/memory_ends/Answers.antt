-- `audit_rights::kinds::memory_ends` meets its contract: the tests are those of the definition, in their order.
use Rattle.std.proofs.lemmas.Grind.{common_steps}
use native.Mathlib.Omega.{arith}
use Rattle.words.specs.Tests.{◌&◌}
use Rattle.audit_rights.specs.ByWords.{memory_ends}
use Rattle.audit_rights.proofs.kinds.memory_ends.Goals as goal

pub returns-then-h-le-KERNEL_END : goal.returns-then-h-le-KERNEL_END
unfolding memory_ends ◌&◌
returns-then-h-le-KERNEL_END c = grind (arith, common_steps)

pub returns-else-h-le-KERNEL_END : goal.returns-else-h-le-KERNEL_END
unfolding memory_ends ◌&◌
returns-else-h-le-KERNEL_END c = grind (arith, common_steps)
