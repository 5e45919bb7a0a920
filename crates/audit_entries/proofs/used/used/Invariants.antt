-- `audit_entries::used::used` meets its contract: the slots that the search has left behind have notes of zeros.
use Rattle.audit_entries.specs.Vacant.{Vacant}
use Rattle.audit_entries.proofs.used.used.Given as goal

abbrev pub invariant-loop-k : goal.invariant-loop-k
invariant-loop-k l = Vacant l.s l.k
