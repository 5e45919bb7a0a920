-- "prove that two results satisfying it are equal": each public function's contract determines its answer, and all that was lent.
use mathlib.Core.Path.{refl}
use Rattle.words.specs.Determined.{Determined}
use Rattle.audit_bytes.proofs as audit_bytes
use Rattle.audit_bytes.specs.contracts as contracts

pub canonical : Determined contracts.canonical.canonical.ended audit_bytes.canonical.canonical.Reads.Learnt
canonical κs a x y v w p q = (cc, refl)
