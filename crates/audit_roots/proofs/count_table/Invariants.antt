-- `audit_roots::count_table` meets its contract: the counts have the entries passed, which are few.
use Prim.Native.Nat.{◌*◌}
use Rattle.state.specs.Read.{place_of}
use Rattle.audit_roots.specs.Roots.{Counts, more, roots_among}
use Rattle.audit_roots.proofs.count_table.Given as goal

abbrev pub invariant-loop-e : goal.invariant-loop-e
invariant-loop-e l = Counts l.counts (more l.initial.counts (roots_among (λ i. place_of l.p (32 * i)) l.e))
