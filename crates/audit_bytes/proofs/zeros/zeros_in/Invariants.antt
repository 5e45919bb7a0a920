-- `audit_bytes::zeros::zeros_in` meets its contract: what is joined is 0 exactly where each word passed is.
use Rattle.std.proofs.Common.{nat_eq, ◌≡◌}
use Rattle.audit_bytes.specs.Clean.{zero_words}
use Rattle.audit_bytes.proofs.zeros.zeros_in.Given as goal

abbrev pub invariant-loop-i : goal.invariant-loop-i
invariant-loop-i l = nat_eq l.seen 0 ≡ zero_words l.s l.at l.i
