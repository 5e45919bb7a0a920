-- `audit_roots::count_slot` meets its contract: the entries in the table's part are those of the table.
use mathlib.Core.Path.{ap, sym, ◌∙◌}
use Prim.Native.Nat.{◌+◌, ℕ}
use native.Mathlib.Omega.{arith}
use lib.ListN.{get_or}
use borrow.Author.Rules.{rules}
use Rattle.audit_entries.proofs.Entries.{entries_few, part_place, part_room}
use Rattle.state.specs.Read.{read}
use Rattle.audit_roots.proofs.Counting.{among_same, counts_same, none_yet}
use Rattle.audit_roots.proofs.count_slot.Goals as goal

pub returns-else-n-ne0 : goal.returns-else-n-ne0
returns-else-n-ne0 c =
    let a = c.args in
    let none = sym c.entries_in-n.ensures ∙ c.if-n-ne0.false in
    rw none (none_yet _ _ c.requires.2.long)

pub table_slots-requires : goal.table_slots-requires
table_slots-requires c = omega (arith, c.entries_in-n.ensures, entries_few (read c.args.s.now) c.requires.1 c.args.t)

pub count_table-requires : goal.count_table-requires
count_table-requires c =
    let a = c.args in
    let pre = c.requires in
    let n = c.entries_in-n.ensures in (
      rw (c.table_slots.ensures, n) (part_room a.s.now pre.0 a.t (search rules) pre.1),
      omega (arith, n, entries_few (read a.s.now) pre.1 a.t),
      pre.2,
    )

pub returns-then-n-ne0 : goal.returns-then-n-ne0
returns-then-n-ne0 c =
    let a = c.args in
    let pre = c.requires in
    let n = c.entries_in-n.ensures in
    counts_same _ _ _ c.count_table.ensures
    (λ k. ap (λ (x : ℕ). get_or a.counts.now k 0 + x)
    (rw (c.table_slots.ensures, n) (among_same _ _ _ (λ e h. part_place a.s.now pre.0 a.t (search rules) e h) k)))
