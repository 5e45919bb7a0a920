-- `audit_rights::parents::inside_words` meets its contract: each kind's tests are those of the definition, in their order.
use mathlib.Core.Logic.{⊎_elim}
use Rattle.std.proofs.lemmas.Grind.{common_steps}
use native.Mathlib.Omega.{arith}
use Rattle.words.specs.Tests.{◌&◌}
use Rattle.audit_rights.specs.ByWords.{inside_words}
use Rattle.audit_rights.proofs.parents.inside_words.Goals as goal

pub returns-in-Table : goal.returns-in-Table
unfolding inside_words ◌&◌
returns-in-Table c = ⊎_elim (λ x. rw x) (λ y. ⊎_elim (λ x. rw x) (λ x. rw x) y) c.in-Table.is

pub returns-then-low-l : goal.returns-then-low-l
unfolding inside_words ◌&◌
returns-then-low-l c = rw c.in-Directory.is (grind (arith, common_steps))

pub returns-else-low-l : goal.returns-else-low-l
unfolding inside_words ◌&◌
returns-else-low-l c = rw c.in-Directory.is (grind (arith, common_steps))

pub returns-then-low-l-2 : goal.returns-then-low-l-2
unfolding inside_words ◌&◌
returns-then-low-l-2 c = rw c.in-Memory.is (grind (arith, common_steps))

pub returns-else-low-l-2 : goal.returns-else-low-l-2
unfolding inside_words ◌&◌
returns-else-low-l-2 c = rw c.in-Memory.is (grind (arith, common_steps))

pub returns-then-low-l-3 : goal.returns-then-low-l-3
unfolding inside_words ◌&◌
returns-then-low-l-3 c = rw c.in-Function.is (grind (arith, common_steps))

pub returns-else-low-l-3 : goal.returns-else-low-l-3
unfolding inside_words ◌&◌
returns-else-low-l-3 c = rw c.in-Function.is (grind (arith, common_steps))
