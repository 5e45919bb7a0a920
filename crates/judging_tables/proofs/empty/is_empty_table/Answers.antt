-- `judging_tables::empty::is_empty_table` meets its contract: every entry passed is blank, and the first one that is not ends the loop.
use mathlib.Core.Path.{◌≡◌, refl, sym, ◌∙◌}
use native.Mathlib.Numerals.{add-one}
use native.Mathlib.Omega.{arith}
use Rattle.words.proofs.Tests.{all_zero, all_more}
use Rattle.judging_deletions.proofs.ChildSearch.{few_entries}
use Rattle.judging_tables.proofs.Entries.{all_blank, one_filled}
use Rattle.judging_tables.proofs.empty.is_empty_table.Goals as goal

pub table_slots-part-requires : goal.table_slots-part-requires
table_slots-part-requires c =
    let a = c.args in let m = c.entries_in-entries in
    omega (arith, m.ensures, few_entries a.s.now (λ i. omega (arith, c.type_inv.s i)) a.o.0 a.o (omega arith) refl)

pub loop-e-init : goal.loop-e-init
loop-e-init c = (omega arith, all_zero _)

pub is_blank_at-requires : goal.is_blank_at-requires
is_blank_at-requires c =
    let a = c.args in let m = c.entries_in-entries in
    omega (arith, m.ensures, few_entries a.s.now (λ i. omega (arith, c.type_inv.s i)) a.o.0 a.o (omega arith) refl)

pub returns-then-not-is_blank_at : goal.returns-then-not-is_blank_at
returns-then-not-is_blank_at c =
    let a = c.args in let m = c.entries_in-entries in let p = c.table_slots-part in let l = c.loop-e in
    let f = c.is_blank_at in
    sym (one_filled a.s.now _ a.o m.result (omega arith) m.ensures p.ensures l.e c.loop-e-test.true (sym f.ensures ∙ c.if-not-is_blank_at.true))

pub overflow_step-e : goal.overflow_step-e
overflow_step-e c = omega arith

pub loop-e-smaller : goal.loop-e-smaller
loop-e-smaller c = omega arith

pub loop-e-preserved : goal.loop-e-preserved
loop-e-preserved c =
    let l = c.loop-e in let f = c.is_blank_at in
    (omega arith, rw add-one (all_more l.e _ l.invariant.1 (sym f.ensures ∙ c.if-not-is_blank_at.false)))

pub returns : goal.returns
returns c =
    let a = c.args in let m = c.entries_in-entries in let p = c.table_slots-part in let l = c.loop-e in
    let end : l.e ≡ m.result = omega arith in
    sym (all_blank a.s.now _ a.o m.result (omega arith) m.ensures p.ensures (rw end at l.invariant.1))
