-- `committing::deletions::size_at` meets its contract: an object's size is what its tag and its argument tell.
use mathlib.Core.Path.{sym, ◌∙◌}
use native.Mathlib.Omega.{arith}
use borrow.Author.Rules.{rules}
use Rattle.state.proofs.Few.{few_positions}
use Rattle.committing.proofs.Sizes.{part_size, table_there, directory_size, one_slot}
use Rattle.state.specs.State.{obj_at}
use Rattle.state.specs.Read.{read}
use Rattle.committing.proofs.deletions.size_at.Goals as goal

pub overflow_mul-positions_in : goal.overflow_mul-positions_in
overflow_mul-positions_in c =
    let a = c.args in
    omega (arith, c.positions_in.ensures, few_positions a.s.now a.o (search rules))

pub overflow_add-positions_in : goal.overflow_add-positions_in
overflow_add-positions_in c =
    let a = c.args in
    omega (arith, c.positions_in.ensures, few_positions a.s.now a.o (search rules))

pub returns-in-1 : goal.returns-in-1
returns-in-1 c =
    let a = c.args in
    sym (part_size (obj_at (read a.s.now) a.o) (sym c.tag_at.ensures ∙ c.in-1.is))

pub returns-in-2 : goal.returns-in-2
returns-in-2 c =
    let a = c.args in
    rw (c.slots_for.ensures, c.argument_byte.ensures) (sym (table_there a.s.now a.o (search rules) (sym c.tag_at.ensures ∙ c.in-2.is)))

pub returns-in-3 : goal.returns-in-3
returns-in-3 c =
    let a = c.args in
    rw (c.slots_for-in-3.ensures, c.positions_in.ensures) (sym (directory_size (obj_at (read a.s.now) a.o) (sym c.tag_at.ensures ∙ c.in-3.is)))

pub returns-in_default : goal.returns-in_default
returns-in_default c =
    let a = c.args in
    let e = c.tag_at.ensures in
    let r = c.in_default.in_default-own.rest in
    sym (one_slot (obj_at (read a.s.now) a.o) (λ x. r.0.0.1 (e ∙ x)) (λ x. r.0.1 (e ∙ x)) (λ x. r.1 (e ∙ x)))
