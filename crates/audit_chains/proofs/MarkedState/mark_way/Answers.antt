-- `audit_chains::MarkedState::mark_way` meets its contract: all that lies on the way reaches a root, and each turn makes a new mark.
use mathlib.Core.Path.{refl}
use native.Mathlib.Omega.{arith}
use Rattle.state.specs.Read.{read}
use Rattle.audit_chains.specs.Chains.{codes}
use Rattle.rules.proofs.Chain.{parent_of}
use Rattle.rules.proofs.Codes.{reaches_inside, test_reaches}
use Rattle.rules.proofs.Fuel.{zeros_fall}
use Rattle.audit_chains.proofs.Walk.{reaches_holds, shown_more}
use Rattle.audit_chains.proofs.MarkedState.mark_way.Goals as goal

pub loop-self-init : goal.loop-self-init
loop-self-init c = (test_reaches (read c.args.self.now.s.now) c.args.p c.requires, refl)

pub bounds-self-x : goal.bounds-self-x
bounds-self-x c =
    let l = c.loop-self in
    omega (arith, reaches_inside (read l.self.s.now) l.self.ready.laid l.x l.invariant.0)

pub bounds-self-x-in-loop-self : goal.bounds-self-x-in-loop-self
bounds-self-x-in-loop-self c =
    let l = c.loop-self in
    omega (arith, reaches_inside (read l.self.s.now) l.self.ready.laid l.x l.invariant.0)

pub invariant_of-self : goal.invariant_of-self
invariant_of-self c =
    let l = c.loop-self in
    record { ready = l.self.ready; shown = shown_more (read l.self.s.now) l.self.ready.laid l.self.marks l.x l.invariant.0 l.self.shown }

pub parent_of-requires : goal.parent_of-requires
parent_of-requires c =
    let l = c.loop-self in
    (l.self.ready, reaches_holds (read l.self.s.now) l.x l.invariant.0)

pub loop-self-smaller : goal.loop-self-smaller
loop-self-smaller c =
    let l = c.loop-self in
    zeros_fall l.self.marks l.x _ (omega (arith, l.self.shown.long, reaches_inside (read l.self.s.now) l.self.ready.laid l.x l.invariant.0))
    c.loop-self-test.true (omega arith)

pub loop-self-preserved : goal.loop-self-preserved
loop-self-preserved c =
    let l = c.loop-self in
    (parent_of (codes (read l.self.s.now)) l.x c.in-Some.parent c.in-Some.ensures.child l.invariant.0, l.invariant.1)
