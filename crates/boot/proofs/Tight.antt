-- "prove that two results satisfying it are equal": each public function's contract determines its answer, and all that was lent.
use mathlib.Core.Path.{refl, ◌∙◌, ap, sym}
use Rattle.words.specs.Determined.{Determined}
use Rattle.boot.proofs as boot
use Rattle.boot.specs.contracts as contracts

pub store_boot : Determined contracts.store_boot.ended boot.store_boot.Reads.Learnt
store_boot κs a x y v w p q = (refl, ap (λ b. (b, v.1)) (p ∙ sym q))
