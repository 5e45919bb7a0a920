-- `audit_bytes::directories::position_clean` meets its contract: each arm's tests are those of the definition.
use Rattle.std.proofs.Common.{arith}
use Rattle.std.proofs.lemmas.Grind.{common_steps}
use Rattle.audit_bytes.specs.Clean.{position_clean}
use Rattle.words.specs.Tests.{◌&◌}
use Rattle.audit_bytes.proofs.directories.position_clean.Goals as goal

pub returns-in-1 : goal.returns-in-1
unfolding position_clean
returns-in-1 c = grind (arith, common_steps)

pub returns-then-first-lt-HALF : goal.returns-then-first-lt-HALF
unfolding position_clean ◌&◌
returns-then-first-lt-HALF c = grind (arith, common_steps)

pub returns-else-first-lt-HALF : goal.returns-else-first-lt-HALF
unfolding position_clean ◌&◌
returns-else-first-lt-HALF c = grind (arith, common_steps)

pub returns-then-first-eq0 : goal.returns-then-first-eq0
unfolding position_clean ◌&◌
returns-then-first-eq0 c = grind (arith, common_steps)

pub returns-else-first-eq0 : goal.returns-else-first-eq0
unfolding position_clean ◌&◌
returns-else-first-eq0 c = grind (arith, common_steps)
