-- `audit_entries::heads::list_heads` meets its contract: the list has the slots passed that have a note of their own.
use Rattle.audit_entries.specs.Heads.{Heads}
use Rattle.audit_entries.proofs.Order.{Order}
use Rattle.audit_entries.proofs.heads.list_heads.Given as goal

abbrev pub invariant-loop-k : goal.invariant-loop-k
invariant-loop-k l = Heads l.s l.heads l.m l.k × Order l.s l.initial.heads l.heads l.m l.k
