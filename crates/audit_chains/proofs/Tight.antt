-- "prove that two results satisfying it are equal": each public function's contract determines its answer, and all that was lent.
use mathlib.Core.Path.{refl}
use Rattle.words.specs.Determined.{Determined}
use Rattle.audit_chains.proofs as audit_chains
use Rattle.audit_chains.specs.contracts as contracts

pub chains_ok : Determined contracts.chains_ok.ended audit_chains.chains_ok.Reads.Learnt
chains_ok κs a x y v w p q = (cc, refl)
