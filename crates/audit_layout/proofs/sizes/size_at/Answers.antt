-- `audit_layout::sizes::size_at` meets its contract: the note of each kind of object tells its slots.
use Rattle.std.proofs.Common.{arith, rules, sym, ◌∙◌}
use Rattle.audit_layout.proofs.Slots.{size_directory, size_later, size_other, size_table}
use Rattle.audit_layout.proofs.sizes.size_at.Goals as goal

pub returns-in-1 : goal.returns-in-1
returns-in-1 c = sym (size_later c.args.s.now c.args.k (search rules) (sym c.tag_in.ensures ∙ c.in-1.is))

pub returns-in-2 : goal.returns-in-2
returns-in-2 c =
    omega (arith, size_table c.args.s.now c.args.k (search rules) (sym c.tag_in.ensures ∙ c.in-2.is))

pub returns-in-3 : goal.returns-in-3
returns-in-3 c =
    omega (arith, size_directory c.args.s.now c.args.k (search rules) (sym c.tag_in.ensures ∙ c.in-3.is))

pub returns-in_default : goal.returns-in_default
returns-in_default c =
    sym (size_other c.args.s.now c.args.k (search rules) (λ x. omega arith) (λ x. omega arith) (λ x. omega arith))
