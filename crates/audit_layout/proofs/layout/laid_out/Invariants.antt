-- `audit_layout::layout::laid_out` meets its contract: what is left of the layout from each slot on decides it.
use Rattle.std.proofs.Common.{◌≡◌}
use Rattle.audit_layout.proofs.Lay.{lay_from}
use Rattle.rules.specs.WellFormed.{apart}
use Rattle.state.specs.Read.{read}
use Rattle.audit_layout.proofs.layout.laid_out.Given as goal

abbrev pub invariant-loop-k : goal.invariant-loop-k
invariant-loop-k l = apart (read l.s) ≡ lay_from (read l.s) l.owed l.first.0 l.k
