-- `audit_chains::MarkedState::table_chained` meets its contract: each entry is asked in turn, and the state stays.
use mathlib.Core.Bool.{true}
use mathlib.Core.Path.{◌≡◌}
use Prim.Native.Nat.{◌*◌}
use Rattle.state.specs.Read.{place_of, read}
use Rattle.words.specs.Tests.{all_below}
use Rattle.audit_chains.specs.Chains.{place_chained}
use Rattle.audit_chains.proofs.MarkedState.table_chained.Given as goal

abbrev pub invariant-loop-e : goal.invariant-loop-e
invariant-loop-e l = (l.self.s ≡ l.initial.self.s) × (all_below l.e (λ i. place_chained (read l.initial.self.s.now) (place_of l.part (32 * i))) ≡ true)
