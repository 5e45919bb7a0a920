-- `audit_bytes::directories::directory_stands` meets its contract: its tests are those of `directory_stands`, in that order.
use Rattle.std.proofs.Common.{arith}
use Rattle.std.proofs.lemmas.Grind.{common_steps}
use Rattle.words.specs.Tests.{◌&◌}
use Rattle.audit_bytes.proofs.ObjectWords.{directory_stands}
use Rattle.audit_bytes.proofs.directories.directory_stands.Goals as goal

pub returns-then-positions_stand : goal.returns-then-positions_stand
unfolding ◌&◌
returns-then-positions_stand c = grind (arith, common_steps, directory_stands c.args.p.now (λ j. (c.type_inv.p j).fits) c.args.positions c.requires)

pub returns-else-positions_stand : goal.returns-else-positions_stand
unfolding ◌&◌
returns-else-positions_stand c = grind (arith, common_steps, directory_stands c.args.p.now (λ j. (c.type_inv.p j).fits) c.args.positions c.requires)
