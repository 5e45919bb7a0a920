-- "prove that two results satisfying it are equal": each public function's contract determines its answer, and all that was lent.
use mathlib.Core.Path.{refl}
use Rattle.words.specs.Determined.{Determined}
use Rattle.audit_layout.proofs as audit_layout
use Rattle.audit_layout.specs.contracts as contracts

pub laid_out : Determined contracts.layout.laid_out.ended audit_layout.layout.laid_out.Reads.Learnt
laid_out κs a x y v w p q = (cc, refl)

pub size_at : Determined contracts.sizes.size_at.ended audit_layout.sizes.size_at.Reads.Learnt
size_at κs a x y v w p q = (cc, refl)
