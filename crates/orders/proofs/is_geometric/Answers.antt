-- `orders::is_geometric` meets its contract: the tests are those of `geometric`, in their order.
use Rattle.std.proofs.lemmas.Grind.{common_steps}
use native.Mathlib.Omega.{arith}
use Rattle.words.specs.Tests.{◌&◌}
use Rattle.rules.specs.WellFormed.{geometric}
use Rattle.orders.proofs.is_geometric.Goals as goal

pub returns-then-g-le-MOST_ORDER_SUM : goal.returns-then-g-le-MOST_ORDER_SUM
unfolding geometric ◌&◌
returns-then-g-le-MOST_ORDER_SUM c = grind (arith, common_steps)

pub returns-else-g-le-MOST_ORDER_SUM : goal.returns-else-g-le-MOST_ORDER_SUM
unfolding geometric ◌&◌
returns-else-g-le-MOST_ORDER_SUM c = grind (arith, common_steps)
