-- `audit_rights::parents::parent_ok` meets its contract: first slot and entry are those of the number; past 512 or past the entries the place is blank.
use mathlib.Core.Path.{sym, ap, ◌∙◌}
use native.Mathlib.Omega.{arith}
use borrow.Author.Rules.{rules}
use borrow.Author.Tests.{le-ltb}
use Rattle.state.specs.Read.{read}
use Rattle.rules.specs.WellFormed.{parent_fits}
use Rattle.audit_entries.proofs.Entries.{part_place}
use Rattle.audit_rights.specs.ButChain.{bare}
use Rattle.audit_rights.specs.Names.{None}
use Rattle.audit_rights.proofs.Walked.{entries_byte, entry_room, number_past, number_place}
use Rattle.state.proofs.Look.{place_past}
use Rattle.audit_rights.proofs.parents.parent_ok.Goals as goal

pub returns-then-p-ge-PLACE_COUNT_U32 : goal.returns-then-p-ge-PLACE_COUNT_U32
returns-then-p-ge-PLACE_COUNT_U32 c =
    let a = c.args in
    sym (ap (parent_fits (bare a.kind a.flags None)) (number_past a.s.now a.p c.if-p-ge-PLACE_COUNT_U32.true))

pub returns-else-e-n : goal.returns-else-e-n
returns-else-e-n c =
    let a = c.args in
    let t = c.first_at-t in
    let e = c.entry_of-e in
    let none = rw c.entries_in-n.ensures at c.if-e-n.false in
    let blank = number_place (read a.s.now) a.p t.result e.result t.ensures e.ensures ∙ place_past (read a.s.now) _ _ none in
    le-ltb _ _ c.if-e-n.false ∙ sym (ap (parent_fits (bare a.kind a.flags None)) blank)

pub table_slots-requires : goal.table_slots-requires
table_slots-requires c =
    let a = c.args in
    let small = c.shared_slice_known-1.given in
    rw c.entries_in-n.ensures (entries_byte a.s.now (λ i. omega (arith, small i)) c.first_at-t.result (search rules))

pub parent_fits-requires : goal.parent_fits-requires
parent_fits-requires c =
    let e = c.entry_of-e in
    rw c.table_slots.ensures (entry_room c.args.s.now c.requires c.first_at-t.result _ e.result c.if-e-n.true (omega (arith, e.ensures)))

pub returns-then-e-n : goal.returns-then-e-n
returns-then-e-n c =
    let t = c.first_at-t in
    let e = c.entry_of-e in
    let n = c.entries_in-n.ensures in
    let place = number_place (read c.args.s.now) c.args.p t.result e.result t.ensures e.ensures in
    let here = part_place c.args.s.now c.requires t.result (search rules) e.result (rw n at c.if-e-n.true) in
    c.parent_fits.ensures
    ∙ rw (c.table_slots.ensures, n) (ap (parent_fits (bare c.args.kind c.args.flags None)) (here ∙ sym place))
