-- "prove that two results satisfying it are equal": each public function's contract determines its answer, and all that was lent.
use mathlib.Core.Path.{refl}
use Rattle.words.specs.Determined.{Determined}
use Rattle.orders.proofs as orders
use Rattle.orders.specs.contracts as contracts

pub is_multiple : Determined contracts.is_multiple.ended orders.is_multiple.Reads.Learnt
is_multiple κs a x y v w p q = (cc, refl)

pub is_geometric : Determined contracts.is_geometric.ended orders.is_geometric.Reads.Learnt
is_geometric κs a x y v w p q = (cc, refl)
