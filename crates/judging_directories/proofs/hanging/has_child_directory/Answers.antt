-- `judging_directories::hanging::has_child_directory` meets its contract: no position passed holds a child, and the first one that does ends the search.
use mathlib.Core.Path.{refl, sym, ◌∙◌}
use Prim.Native.Nat.{◌<◌}
use native.Mathlib.Numerals.{add-one}
use native.Mathlib.Omega.{arith}
use borrow.Author.Rules.{rules}
use Rattle.words.specs.Sizes.{slot_count}
use Rattle.words.proofs.Tests.{any_zero, any_more}
use Rattle.state.proofs.Few.{few_positions}
use Rattle.judging_directories.proofs.Search.{no_child, a_child}
use Rattle.judging_directories.proofs.hanging.has_child_directory.Goals as goal

pub directory_slots-part-requires : goal.directory_slots-part-requires
directory_slots-part-requires c =
    let a = c.args in let h : a.d.0 < slot_count = search rules in
    omega (arith, c.positions_in-positions.ensures, few_positions a.s.now a.d h)

pub search-init : goal.search-init
search-init c = (omega arith, refl, any_zero _)

pub holds_child-requires : goal.holds_child-requires
holds_child-requires c =
    let a = c.args in let h : a.d.0 < slot_count = search rules in
    omega (arith, c.positions_in-positions.ensures, few_positions a.s.now a.d h)

pub overflow_step-i : goal.overflow_step-i
overflow_step-i c = omega arith

pub search-smaller : goal.search-smaller
search-smaller c = omega arith

pub search-preserved : goal.search-preserved
search-preserved c =
    let l = c.search in
    (omega arith, l.invariant.1, rw add-one (any_more l.i _ l.invariant.2 (sym c.holds_child.ensures ∙ c.if-holds_child.false)))

pub returns-after-search : goal.returns-after-search
returns-after-search c =
    let a = c.args in let l = c.search in let n = c.positions_in-positions in let h : a.d.0 < slot_count = search rules in
    l.invariant.1 ∙ sym (no_child a.s.now _ a.d n.result h n.ensures c.directory_slots-part.ensures l.i (omega arith) l.invariant.2)

pub returns-then-holds_child : goal.returns-then-holds_child
returns-then-holds_child c =
    let a = c.args in let l = c.search in let n = c.positions_in-positions in let h : a.d.0 < slot_count = search rules in
    sym (a_child a.s.now _ a.d n.result h n.ensures c.directory_slots-part.ensures l.i c.search-test.true (sym c.holds_child.ensures ∙ c.if-holds_child.true))
