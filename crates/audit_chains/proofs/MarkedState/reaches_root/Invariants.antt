-- `audit_chains::MarkedState::reaches_root` meets its contract: a place on the way answers for the first, and 512 steps are enough.
use mathlib.Core.Bool.{true}
use mathlib.Core.Path.{◌≡◌}
use Prim.Native.Nat.{◌-◌}
use Rattle.state.specs.Read.{read}
use Rattle.state.specs.State.{place_numbered}
use Rattle.words.specs.Sizes.{place_count}
use Rattle.audit_chains.specs.Chains.{holds}
use Rattle.audit_chains.proofs.Walk.{Going}
use Rattle.audit_chains.proofs.MarkedState.reaches_root.Given as goal

abbrev pub invariant-loop : goal.invariant-loop
invariant-loop l = (holds (place_numbered (read l.self.s.now) l.x) ≡ true) × Going (read l.self.s.now) l.p l.x (place_count - l.counter)
