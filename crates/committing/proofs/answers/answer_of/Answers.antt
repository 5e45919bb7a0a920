-- `committing::answers::answer_of` meets its contract: what is counted fits a signed word.
use native.Mathlib.Omega.{arith}
use mir.ValLaws.{to_z_pos}
use mir.Syntax.{w32}
use Rattle.committing.proofs.answers.answer_of.Goals as goal

pub overflow_cast-result : goal.overflow_cast-result
overflow_cast-result c = omega (arith, rw c.in-SetCount.is at c.requires)

pub overflow_cast-result-in-Answer : goal.overflow_cast-result-in-Answer
overflow_cast-result-in-Answer c = omega (arith, rw c.in-Answer.is at c.requires)

pub returns-in-SetCount : goal.returns-in-SetCount
returns-in-SetCount c = rw c.in-SetCount.is (to_z_pos w32 _ (omega (arith, rw c.in-SetCount.is at c.requires)))

pub returns-in-Answer : goal.returns-in-Answer
returns-in-Answer c = rw c.in-Answer.is (to_z_pos w32 _ (omega (arith, rw c.in-Answer.is at c.requires)))
