-- `judging_deletions::children::has_children` meets its contract: no entry passed and no table passed holds a child, and the first one that does ends the search.
use mathlib.Core.Path.{◌≡◌, refl, sym, ap, subst, ◌∙◌}
use mathlib.Core.Bool.{false}
use Prim.Native.Nat.{ℕ}
use native.Mathlib.Numerals.{add-one}
use native.Mathlib.Omega.{arith}
use Rattle.state.specs.Read.{read}
use Rattle.state.specs.State.{entries_in}
use Rattle.words.specs.Fields.{slot}
use Rattle.words.specs.Tests.{any_below}
use Rattle.words.proofs.Tests.{any_zero, any_more}
use Rattle.judging_deletions.proofs.ChildSearch.{child_at, child_in, few_entries, child_here, none_left, one_found}
use Rattle.judging_deletions.proofs.children.has_children.Goals as goal
use Rattle.judging_deletions.proofs.children.has_children.Goals.{then-entries-gt0+else-loop-e-test, else-entries-gt0}

pub search-init : goal.search-init
search-init c = (omega arith, refl, any_zero _)

pub table_slots-part-requires : goal.table_slots-part-requires
table_slots-part-requires c =
    let a = c.args in let s = c.search in let t = c.slot_numbered-t in
    omega (arith, c.entries_in-entries.ensures, few_entries a.s.now (λ i. omega (arith, c.type_inv.s i)) s.k t.result (omega arith) t.ensures)

pub loop-e-init : goal.loop-e-init
loop-e-init c = (omega arith, c.search.invariant.1, any_zero _)

pub is_child-requires : goal.is_child-requires
is_child-requires c =
    let a = c.args in let s = c.search in let n = c.place_number-n in let t = c.slot_numbered-t in (
      omega (arith, c.entries_in-entries.ensures, few_entries a.s.now (λ i. omega (arith, c.type_inv.s i)) s.k t.result (omega arith) t.ensures),
      omega (arith, n.ensures),
    )

pub overflow_step-e : goal.overflow_step-e
overflow_step-e c = omega arith

pub loop-e-smaller : goal.loop-e-smaller
loop-e-smaller c = omega arith

pub loop-e-preserved : goal.loop-e-preserved
loop-e-preserved c =
    let a = c.args in let s = c.search in let n = c.place_number-n in let t = c.slot_numbered-t in let m = c.entries_in-entries in let l = c.loop-e in
    let here = child_here a.s.now _ t.result s.k m.result n.result l.e (omega arith) t.ensures m.ensures c.table_slots-part.ensures c.loop-e-test.true in
    (omega arith, l.invariant.1, rw add-one (any_more l.e (child_at a.s.now n.result s.k) l.invariant.2 (sym here ∙ sym c.is_child.ensures ∙ c.if-is_child.false)))

pub overflow_step-k : goal.overflow_step-k
overflow_step-k c = omega arith

pub search-smaller : goal.search-smaller
search-smaller c = omega arith

pub search-preserved : goal.search-preserved
search-preserved c =
    let a = c.args in let s = c.search in let n = c.place_number-n in let t = c.slot_numbered-t in let m = c.entries_in-entries in
    let all : m.result ≡ entries_in (read a.s.now) (slot s.k) = m.ensures ∙ ap (entries_in (read a.s.now)) t.ensures in
    let none : (e : ℕ) → e ≡ m.result → any_below e (child_at a.s.now n.result s.k) ≡ false → child_in a.s.now n.result s.k ≡ false =
    λ e q h. subst (λ (x : ℕ). any_below x (child_at a.s.now n.result s.k) ≡ false) (q ∙ all) h in
    let here : child_in a.s.now n.result s.k ≡ false =
    elim c.if-entries-gt0.branch [
      | then-entries-gt0+else-loop-e-test w ↦ none w.loop-e.e (omega (arith, w.loop-e.invariant.0, w.loop-e-test.false)) w.loop-e.invariant.2
      | else-entries-gt0 w ↦ none 0 (omega (arith, w.if-entries-gt0.false)) (any_zero _)
    ] in
    let found : c.if-entries-gt0.found ≡ false =
    elim c.if-entries-gt0.branch [
      | then-entries-gt0+else-loop-e-test w ↦ w.found-is ∙ w.loop-e.invariant.1
      | else-entries-gt0 w ↦ w.found-is ∙ s.invariant.1
    ] in
    (omega arith, found, rw add-one (any_more s.k (child_in a.s.now n.result) s.invariant.2 here))

pub returns-after-search : goal.returns-after-search
returns-after-search c =
    let a = c.args in let s = c.search in let n = c.place_number-n in
    s.invariant.1 ∙ sym (none_left a.s.now a.p n.result s.k n.ensures (omega arith) s.invariant.2)

pub returns-then-is_child : goal.returns-then-is_child
returns-then-is_child c =
    let a = c.args in let s = c.search in let n = c.place_number-n in let t = c.slot_numbered-t in let m = c.entries_in-entries in let l = c.loop-e in
    let here = child_here a.s.now _ t.result s.k m.result n.result l.e (omega arith) t.ensures m.ensures c.table_slots-part.ensures c.loop-e-test.true in
    let all = m.ensures ∙ ap (entries_in (read a.s.now)) t.ensures in
    sym (one_found a.s.now a.p n.result s.k l.e n.ensures (omega arith) (rw all at c.loop-e-test.true) (sym here ∙ sym c.is_child.ensures ∙ c.if-is_child.true))
