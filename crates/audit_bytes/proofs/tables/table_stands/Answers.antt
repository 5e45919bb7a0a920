-- `audit_bytes::tables::table_stands` meets its contract: its tests are those of `table_stands`, in that order.
use Rattle.std.proofs.Common.{arith}
use Rattle.std.proofs.lemmas.Grind.{common_steps}
use Rattle.words.specs.Tests.{◌&◌}
use Rattle.audit_bytes.proofs.ObjectWords.{table_stands}
use Rattle.audit_bytes.proofs.tables.table_stands.Goals as goal

pub returns-then-places_stand : goal.returns-then-places_stand
unfolding ◌&◌
returns-then-places_stand c = grind (arith, common_steps, table_stands c.args.p.now (λ j. (c.type_inv.p j).fits) c.args.entries c.requires)

pub returns-else-places_stand : goal.returns-else-places_stand
unfolding ◌&◌
returns-else-places_stand c = grind (arith, common_steps, table_stands c.args.p.now (λ j. (c.type_inv.p j).fits) c.args.entries c.requires)
