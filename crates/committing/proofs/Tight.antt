-- "prove that two results satisfying it are equal": each public function's contract determines its answer, and all that was lent.
use mathlib.Core.Path.{refl, ◌∙◌, ap, sym}
use Rattle.words.specs.Determined.{Determined}
use Rattle.committing.proofs as committing
use Rattle.committing.specs.contracts as contracts

pub carry_out : Determined contracts.actions.carry_out.ended committing.actions.carry_out.Reads.Learnt
carry_out κs a x y v w p q = (refl, ap (λ b. (b, v.1)) (p ∙ sym q))

pub answer_of : Determined contracts.answers.answer_of.ended committing.answers.answer_of.Reads.Learnt
answer_of κs a x y v w p q = (cc, refl)
