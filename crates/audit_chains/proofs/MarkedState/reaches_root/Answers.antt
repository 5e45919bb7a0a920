-- `audit_chains::MarkedState::reaches_root` meets its contract: a place on the way answers for the first, and 512 steps are enough.
use mathlib.Core.Path.{◌≡◌}
use Prim.Native.Nat.{◌+◌, ◌-◌}
use native.Mathlib.Omega.{arith}
use Rattle.state.specs.Read.{read}
use Rattle.words.specs.Sizes.{place_count}
use Rattle.rules.proofs.Chain.{root}
use Rattle.rules.proofs.Codes.{test_reaches}
use Rattle.audit_chains.proofs.Entry.{numbered_parent, numbered_small}
use Rattle.audit_chains.proofs.Walk.{going_next, going_root, going_spent, going_start}
use Rattle.audit_chains.proofs.MarkedState.reaches_root.Goals as goal

pub loop-init : goal.loop-init
loop-init c = let a = c.args.self.now in (c.requires, going_start (read a.s.now) a.ready.laid c.args.p)

pub bounds-self-x : goal.bounds-self-x
bounds-self-x c =
    let l = c.loop in
    let a = c.args.self.now in
    omega (arith, numbered_small a.s.now a.ready.laid l.x l.invariant.0)

pub returns-then-self-x-ne0 : goal.returns-then-self-x-ne0
returns-then-self-x-ne0 c =
    let l = c.loop in
    let a = c.args.self.now in
    going_root (read a.s.now) a.ready.laid _ l.x _ l.invariant.1 (test_reaches (read a.s.now) l.x (a.shown.shown l.x c.if-self-x-ne0.true))

pub parent_of-requires : goal.parent_of-requires
parent_of-requires c = (c.args.self.now.ready, c.loop.invariant.0)

pub returns-in_default : goal.returns-in_default
returns-in_default c =
    let l = c.loop in
    let a = c.args.self.now in
    going_root (read a.s.now) a.ready.laid _ l.x _ l.invariant.1 (root c.in_default.ensures.root)

pub loop-preserved : goal.loop-preserved
loop-preserved c =
    let l = c.loop in
    let a = c.args.self.now in
    let q = c.in-Some.parent in
    let up = c.in-Some.ensures.child in
    let left : place_count - (l.counter + 1) ≡ place_count - l.counter - 1 = omega arith in (
      numbered_parent a.s.now a.ready l.x q l.invariant.0 up,
      rw left (going_next (read a.s.now) a.ready.laid _ l.x q (place_count - l.counter) (omega arith) up l.invariant.1),
    )

pub returns : goal.returns
returns c =
    let l = c.loop in
    let a = c.args.self.now in
    going_spent (read a.s.now) a.ready.laid _ l.x _ (omega arith) l.invariant.1
