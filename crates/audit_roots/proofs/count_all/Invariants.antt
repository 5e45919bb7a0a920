-- `audit_roots::count_all` meets its contract: the counts have the listed tables passed, and there is no other table.
use Rattle.state.specs.Read.{read}
use Rattle.audit_roots.specs.Roots.{Counts}
use Rattle.audit_roots.proofs.Counting.{roots_listed}
use Rattle.audit_roots.proofs.count_all.Given as goal

abbrev pub invariant-loop-k : goal.invariant-loop-k
invariant-loop-k l = Counts l.counts (roots_listed (read l.s) l.heads l.k-index)
