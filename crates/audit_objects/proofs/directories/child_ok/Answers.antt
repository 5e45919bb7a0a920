-- `audit_objects::directories::child_ok` meets its contract: the readers give what `hangs` asks of.
use Rattle.std.proofs.lemmas.Grind.{common_steps}
use native.Mathlib.Omega.{arith}
use Rattle.words.specs.Tests.{◌&◌}
use Rattle.state.specs.Read.{read}
use Rattle.state.specs.State.{obj_at}
use Rattle.rules.specs.WellFormed.{hangs}
use Rattle.audit_objects.proofs.Checks.{directory_number}
use Rattle.audit_objects.proofs.directories.child_ok.Goals as goal

pub returns-then-c-g : goal.returns-then-c-g
unfolding hangs ◌&◌
returns-then-c-g c = rw (directory_number (obj_at (read c.args.s.now) c.args.o), ← c.tag_at.ensures, ← c.shape_at-c.ensures) (grind (arith, common_steps))

pub returns-else-c-g : goal.returns-else-c-g
unfolding hangs ◌&◌
returns-else-c-g c = rw (directory_number (obj_at (read c.args.s.now) c.args.o), ← c.tag_at.ensures, ← c.shape_at-c.ensures) (grind (arith, common_steps))
