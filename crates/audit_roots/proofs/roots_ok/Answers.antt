-- `audit_roots::roots_ok` meets its contract: the counts are those of the rule, and each is asked to be 1.
use mathlib.Core.Path.{ap, sym, ◌∙◌}
use Prim.Native.Nat.{ℕ}
use native.Mathlib.Omega.{arith}
use mathlib.Core.Bool.{false≢true}
use lib.Dec.{eqb}
use Rattle.rules.specs.WellFormed.{rooted}
use Rattle.words.proofs.Tests.{and_no, and_yes}
use Rattle.audit_roots.proofs.Counting.{none_below}
use Rattle.audit_roots.proofs.Named.{function_roots, memory_roots}
use Rattle.audit_roots.proofs.roots_ok.Goals as goal
use Rattle.audit_roots.proofs.roots_ok.Goals.{then-objects_rooted, else-objects_rooted}

pub count_all-requires : goal.count_all-requires
count_all-requires c =
    let pre = c.requires in
    (pre.0.size, pre.0.laid, pre.1, none_below _)

pub objects_rooted-requires : goal.objects_rooted-requires
objects_rooted-requires c = let pre = c.requires in (pre.0, pre.1, c.count_all.ensures)

pub returns-then-counts-eq1 : goal.returns-then-counts-eq1
unfolding rooted
returns-then-counts-eq1 c =
    let pre = c.requires.0 in
    let counted = c.count_all.ensures.each_count in
    let memory = counted 256 (omega arith) ∙ memory_roots _ pre.laid pre.rights in
    let functions = counted 257 (omega arith) ∙ function_roots _ pre.laid pre.rights in
    elim c.if-objects_rooted.branch [
      | then-objects_rooted w ↦
          ap (λ (n : ℕ). eqb n 1) functions
          ∙ sym
          (and_yes _ _ (sym c.objects_rooted.ensures ∙ w.if-objects_rooted.true)
          ∙ and_yes _ _ (ap (λ (n : ℕ). eqb n 1) (sym memory) ∙ sym w.value-is ∙ c.if-counts-eq1.true))
      | else-objects_rooted w ↦ absurd (false≢true (sym w.if-objects_rooted.false ∙ sym w.value-is ∙ c.if-counts-eq1.true))
    ]

pub returns-else-counts-eq1 : goal.returns-else-counts-eq1
unfolding rooted
returns-else-counts-eq1 c =
    let pre = c.requires.0 in
    let memory = c.count_all.ensures.each_count 256 (omega arith) ∙ memory_roots _ pre.laid pre.rights in
    let no = c.if-counts-eq1.false in
    no ∙ sym (elim c.if-objects_rooted.branch [
      | then-objects_rooted w ↦
          and_yes _ _ (sym c.objects_rooted.ensures ∙ w.if-objects_rooted.true) ∙ and_no _ _ (ap (λ (n : ℕ). eqb n 1) (sym memory) ∙ sym w.value-is ∙ no)
      | else-objects_rooted w ↦ and_no _ _ (sym c.objects_rooted.ensures ∙ w.if-objects_rooted.false)
    ])
