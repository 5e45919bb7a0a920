-- `audit_bytes::places::object_alone` meets its contract: its tests are those of the definition.
use Rattle.std.proofs.Common.{arith}
use Rattle.std.proofs.lemmas.Grind.{common_steps}
use Rattle.audit_bytes.specs.Clean.{object_alone}
use Rattle.words.specs.Tests.{◌&◌}
use Rattle.audit_bytes.proofs.places.object_alone.Goals as goal

pub returns-then-high-eq0 : goal.returns-then-high-eq0
unfolding object_alone ◌&◌
returns-then-high-eq0 c = grind (arith, common_steps)

pub returns-else-high-eq0 : goal.returns-else-high-eq0
unfolding object_alone ◌&◌
returns-else-high-eq0 c = grind (arith, common_steps)
