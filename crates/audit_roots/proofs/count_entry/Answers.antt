-- `audit_roots::count_entry` meets its contract: a root is counted under its own number, and what is none nowhere.
use native.Mathlib.Omega.{arith}
use Rattle.audit_roots.proofs.count_entry.Goals as goal

pub overflow_add-counts : goal.overflow_add-counts
overflow_add-counts c = omega (arith, c.requires.1.most c.in-Some.k c.in-Some.ensures.one_of_them)
