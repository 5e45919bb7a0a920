-- `reading::notes::all_free` meets its contract: each turn adds one free slot, and past the last slot nothing stands.
use mathlib.Core.Path.{sym, ◌∙◌}
use native.Mathlib.Numerals.{add-one}
use native.Mathlib.Omega.{arith}
use Rattle.reading.proofs.Free.{free_after, free_all}
use Rattle.words.proofs.Tests.{all_zero, all_more, all_not}
use Rattle.reading.proofs.notes.all_free.Goals as goal

pub loop-i-init : goal.loop-i-init
loop-i-init c = all_zero _

pub returns-then-not-free_after : goal.returns-then-not-free_after
returns-then-not-free_after c = let a = c.args in
    let f = c.free_after in
    sym (all_not a.n (free_after a.s.now a.k) c.loop-i.i (omega (arith, c.loop-i-test.true, c.min-i-end.ensures)) (sym f.ensures ∙ c.if-not-free_after.true))

pub loop-i-preserved : goal.loop-i-preserved
loop-i-preserved c = let a = c.args in
    let f = c.free_after in
    let l = c.loop-i in
    rw add-one (all_more l.i (free_after a.s.now a.k) l.invariant
    (sym f.ensures ∙ c.if-not-free_after.false))

pub returns : goal.returns
returns c = let a = c.args in
    sym (free_all a.s.now a.k a.n c.loop-i.i c.loop-i.invariant (omega (arith, c.loop-i-test.false, c.min-i-end.ensures)))
