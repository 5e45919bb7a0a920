-- `audit_chains::MarkedState::mark_way` meets its contract: all that lies on the way reaches a root, and each turn makes a new mark.
use mathlib.Core.Path.{◌≡◌}
use Rattle.state.specs.Read.{read}
use Rattle.audit_chains.specs.Chains.{codes}
use Rattle.rules.proofs.Chain.{Reaches}
use Rattle.rules.proofs.Fuel.{zeros}
use Rattle.audit_chains.proofs.MarkedState.mark_way.Given as goal

abbrev pub invariant-loop-self : goal.invariant-loop-self
invariant-loop-self l = Reaches (codes (read l.self.s.now)) l.x × (l.self.s ≡ l.initial.self.s)

abbrev pub decreases-loop-self : goal.decreases-loop-self
decreases-loop-self l = zeros l.self.marks
