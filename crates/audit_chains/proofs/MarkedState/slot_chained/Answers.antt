-- `audit_chains::MarkedState::slot_chained` meets its contract: the entries in the table's part are those of the table.
use mathlib.Core.Path.{sym, ◌∙◌}
use native.Mathlib.Omega.{arith}
use borrow.Author.Rules.{rules}
use borrow.Author.Tests.{eq-eqb}
use Rattle.audit_entries.proofs.Entries.{entries_few, part_room}
use Rattle.state.specs.Read.{read}
use Rattle.words.proofs.Tests.{all_zero}
use Rattle.audit_chains.proofs.Table.{part_chained, part_parents}
use Rattle.audit_chains.proofs.MarkedState.slot_chained.Goals as goal

pub returns-then-n-eq0-clause-told : goal.returns-then-n-eq0-clause-told
returns-then-n-eq0-clause-told c =
    let none = sym c.entries_in-n.ensures ∙ c.if-n-eq0.true in
    eq-eqb _ _ c.if-n-eq0.true ∙ rw none (sym (all_zero _))

pub table_slots-requires : goal.table_slots-requires
table_slots-requires c =
    let a = c.args.self.now in
    omega (arith, c.entries_in-n.ensures, entries_few (read a.s.now) a.ready.laid c.args.t)

pub table_chained-requires : goal.table_chained-requires
table_chained-requires c =
    let a = c.args.self.now in
    let n = c.entries_in-n.ensures in
    let part = c.table_slots.ensures in (
      omega (arith, n, entries_few (read a.s.now) a.ready.laid c.args.t),
      rw (part, n) (part_room a.s.now a.ready.size c.args.t (search rules) a.ready.laid),
      rw (part, n) (part_parents a.s.now a.ready c.args.t (search rules)),
    )

pub returns-else-n-eq0-clause-told : goal.returns-else-n-eq0-clause-told
returns-else-n-eq0-clause-told c =
    let a = c.args.self.now in
    let n = c.entries_in-n.ensures in
    let part = c.table_slots.ensures in
    c.table_chained.ensures.told ∙ rw (part, n) (part_chained a.s.now a.ready c.args.t (search rules))
