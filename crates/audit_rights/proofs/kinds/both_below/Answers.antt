-- `audit_rights::kinds::both_below` meets its contract: one test after the other.
use Rattle.std.proofs.lemmas.Grind.{common_steps}
use native.Mathlib.Omega.{arith}
use Rattle.words.specs.Tests.{◌&◌}
use Rattle.audit_rights.proofs.kinds.both_below.Goals as goal

pub returns-then-low-n : goal.returns-then-low-n
unfolding ◌&◌
returns-then-low-n c = grind (arith, common_steps)

pub returns-else-low-n : goal.returns-else-low-n
unfolding ◌&◌
returns-else-low-n c = grind (arith, common_steps)
