-- `audit_rights::kinds::is_whole` meets its contract: each arm asks what `whole` asks of its kind.
use mathlib.Core.Logic.{⊎_elim}
use native.Mathlib.Numerals.{add-one}
use Rattle.rules.specs.WellFormed.{whole}
use Rattle.audit_rights.proofs.kinds.is_whole.Goals as goal

pub returns-in-Table : goal.returns-in-Table
unfolding whole
returns-in-Table c = ⊎_elim (λ x. rw x.1) (λ y. ⊎_elim (λ x. rw x.1) (λ x. rw x.1) y) c.in-Table.is

pub returns-in-Directory : goal.returns-in-Directory
unfolding whole
returns-in-Directory c = rw (c.in-Directory.is, c.both_are.ensures, c.positions_in.ensures, add-one)

pub returns-in-Memory : goal.returns-in-Memory
unfolding whole
returns-in-Memory c = rw (c.in-Memory.is, c.both_are-in-Memory.ensures)

pub returns-in-Function : goal.returns-in-Function
unfolding whole
returns-in-Function c = rw (c.in-Function.is, c.both_are-in-Function.ensures)
