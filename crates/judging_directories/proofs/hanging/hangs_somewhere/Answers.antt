-- `judging_directories::hanging::hangs_somewhere` meets its contract: no position passed and no directory passed holds this one, and the first one that does ends the search.
use mathlib.Core.Path.{◌≡◌, refl, sym, ap, subst, ◌∙◌}
use mathlib.Core.Bool.{false}
use Prim.Native.Nat.{ℕ}
use native.Mathlib.Numerals.{add-one}
use native.Mathlib.Omega.{arith}
use Rattle.state.specs.Read.{read}
use Rattle.state.specs.State.{positions_in}
use Rattle.words.specs.Fields.{slot}
use Rattle.words.specs.Tests.{any_below}
use Rattle.words.proofs.Tests.{any_zero, any_more}
use Rattle.judging_directories.proofs.Search.{this_at, this_in, few_at, this_here, none_left, one_found}
use Rattle.judging_directories.proofs.hanging.hangs_somewhere.Goals as goal

pub search-init : goal.search-init
search-init c = (omega arith, refl, any_zero _)

pub directory_slots-part-requires : goal.directory_slots-part-requires
directory_slots-part-requires c =
    let a = c.args in let s = c.search in let t = c.slot_numbered-o in let n = c.positions_in-positions in
    omega (arith, n.ensures, few_at a.s.now s.k t.result c.search-test.true t.ensures)

pub loop-i-init : goal.loop-i-init
loop-i-init c = (omega arith, c.search.invariant.1, any_zero _)

pub holds_this-requires : goal.holds_this-requires
holds_this-requires c =
    let a = c.args in let s = c.search in let t = c.slot_numbered-o in let n = c.positions_in-positions in
    omega (arith, n.ensures, few_at a.s.now s.k t.result c.search-test.true t.ensures)

pub overflow_step-i : goal.overflow_step-i
overflow_step-i c = omega arith

pub loop-i-smaller : goal.loop-i-smaller
loop-i-smaller c = omega arith

pub loop-i-preserved : goal.loop-i-preserved
loop-i-preserved c =
    let a = c.args in let s = c.search in let t = c.slot_numbered-o in let n = c.positions_in-positions in let l = c.loop-i in
    let here = this_here a.s.now _ a.d t.result s.k n.result l.i c.search-test.true t.ensures n.ensures c.directory_slots-part.ensures c.loop-i-test.true in
    (omega arith, l.invariant.1, rw add-one (any_more l.i (this_at a.s.now a.d s.k) l.invariant.2 (sym here ∙ sym c.holds_this.ensures ∙ c.if-holds_this.false)))

pub overflow_step-k : goal.overflow_step-k
overflow_step-k c = omega arith

pub search-smaller : goal.search-smaller
search-smaller c = omega arith

pub search-preserved : goal.search-preserved
search-preserved c =
    let a = c.args in let s = c.search in let t = c.slot_numbered-o in let n = c.positions_in-positions in let l = c.loop-i in
    let end : l.i ≡ n.result = omega arith in
    let all : l.i ≡ positions_in (read a.s.now) (slot s.k) = end ∙ n.ensures ∙ ap (positions_in (read a.s.now)) t.ensures in
    (omega arith, l.invariant.1, rw add-one (any_more s.k (this_in a.s.now a.d) s.invariant.2 (subst (λ (x : ℕ). any_below x (this_at a.s.now a.d s.k) ≡ false) all l.invariant.2)))

pub returns-after-search : goal.returns-after-search
returns-after-search c =
    let a = c.args in let s = c.search in
    s.invariant.1 ∙ sym (none_left a.s.now a.d s.k (omega arith) s.invariant.2)

pub returns-then-holds_this : goal.returns-then-holds_this
returns-then-holds_this c =
    let a = c.args in let s = c.search in let t = c.slot_numbered-o in let n = c.positions_in-positions in let l = c.loop-i in
    let here = this_here a.s.now _ a.d t.result s.k n.result l.i c.search-test.true t.ensures n.ensures c.directory_slots-part.ensures c.loop-i-test.true in
    let all = n.ensures ∙ ap (positions_in (read a.s.now)) t.ensures in
    sym (one_found a.s.now a.d s.k l.i c.search-test.true (rw all at c.loop-i-test.true) (sym here ∙ sym c.holds_this.ensures ∙ c.if-holds_this.true))
