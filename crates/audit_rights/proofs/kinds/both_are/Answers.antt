-- `audit_rights::kinds::both_are` meets its contract: one test after the other.
use Rattle.std.proofs.lemmas.Grind.{common_steps}
use native.Mathlib.Omega.{arith}
use Rattle.words.specs.Tests.{◌&◌}
use Rattle.audit_rights.proofs.kinds.both_are.Goals as goal

pub returns-then-low-first : goal.returns-then-low-first
unfolding ◌&◌
returns-then-low-first c = grind (arith, common_steps)

pub returns-else-low-first : goal.returns-else-low-first
unfolding ◌&◌
returns-else-low-first c = grind (arith, common_steps)
