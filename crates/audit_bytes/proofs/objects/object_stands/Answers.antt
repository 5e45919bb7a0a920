-- `audit_bytes::objects::object_stands` meets its contract: what stands in the object's own slots is what stands in the buffer there.
use mathlib.Core.Path.{sym, ap, ◌∙◌}
use Prim.Native.Nat.{ℕ, ◌+◌, ◌*◌}
use native.Mathlib.Omega.{arith}
use borrow.Author.Rules.{rules}
use Rattle.words.specs.Sizes.{entry_size, header_size, position_size, slot_size, slots_for}
use Rattle.state.specs.Bytes.{memory_bytes}
use Rattle.state.specs.Read.{object_from}
use Rattle.state.proofs.Look.{width_known}
use Rattle.audit_bytes.specs.Stands.{starts, table_in, directory_in}
use Rattle.audit_bytes.proofs.SlotParts.{Cut, cut_directory, cut_small, cut_stands, cut_table, free_stands, later_stands}
use Rattle.audit_bytes.proofs.objects.object_stands.Goals as goal

pub table_stands-requires : goal.table_stands-requires
table_stands-requires c =
    let p = c.own_slots.result.now in
    let cut : Cut c.args.s.now c.args.k p =
    record { inside = search rules; long = c.requires.0; laid = c.requires.1; part = c.own_slots.ensures } in
    let tag = sym c.tag_byte.ensures ∙ c.in-2.is in
    cut_table _ _ _ cut tag ∙ ap (λ (i : ℕ). slot_size * slots_for (entry_size * i)) (sym c.argument_byte.ensures)

pub directory_stands-requires : goal.directory_stands-requires
directory_stands-requires c =
    let p = c.own_slots-in-3.result.now in
    let cut : Cut c.args.s.now c.args.k p =
    record { inside = search rules; long = c.requires.0; laid = c.requires.1; part = c.own_slots-in-3.ensures } in
    let tag = sym c.tag_byte.ensures ∙ c.in-3.is in
    cut_directory _ _ _ cut tag ∙ ap (λ (i : ℕ). slot_size * slots_for (header_size + position_size * i)) (sym c.positions_in.ensures)

pub process_stands-requires : goal.process_stands-requires
process_stands-requires c =
    let p = c.own_slots-in-4.result.now in
    let cut : Cut c.args.s.now c.args.k p =
    record { inside = search rules; long = c.requires.0; laid = c.requires.1; part = c.own_slots-in-4.ensures } in
    let tag = sym c.tag_byte.ensures ∙ c.in-4.is in
    cut_small _ _ _ cut 4 tag (omega arith)

pub endpoint_stands-requires : goal.endpoint_stands-requires
endpoint_stands-requires c =
    let p = c.own_slots-in-5.result.now in
    let cut : Cut c.args.s.now c.args.k p =
    record { inside = search rules; long = c.requires.0; laid = c.requires.1; part = c.own_slots-in-5.ensures } in
    let tag = sym c.tag_byte.ensures ∙ c.in-5.is in
    cut_small _ _ _ cut 5 tag (omega arith)

pub returns-in-1 : goal.returns-in-1
returns-in-1 c =
    let a = c.args in
    sym (later_stands a.s.now a.k (search rules) (sym c.tag_byte.ensures ∙ c.in-1.is))

pub returns-in-2 : goal.returns-in-2
unfolding object_from
returns-in-2 c =
    let p = c.own_slots.result.now in
    let cut : Cut c.args.s.now c.args.k p =
    record { inside = search rules; long = c.requires.0; laid = c.requires.1; part = c.own_slots.ensures } in
    let tag = sym c.tag_byte.ensures ∙ c.in-2.is in
    c.table_stands.ensures
    ∙ ap (λ (i : ℕ). starts (memory_bytes (table_in p i)) p) c.argument_byte.ensures
    ∙ cut_stands _ _ _ cut 2 tag

pub returns-in-3 : goal.returns-in-3
unfolding object_from
returns-in-3 c =
    let p = c.own_slots-in-3.result.now in
    let cut : Cut c.args.s.now c.args.k p =
    record { inside = search rules; long = c.requires.0; laid = c.requires.1; part = c.own_slots-in-3.ensures } in
    let tag = sym c.tag_byte.ensures ∙ c.in-3.is in
    c.directory_stands.ensures
    ∙ ap (λ (i : ℕ). starts (memory_bytes (directory_in p i)) p) (c.positions_in.ensures ∙ width_known c.args.s.now c.args.k (search rules) tag)
    ∙ cut_stands _ _ _ cut 3 tag

pub returns-in-4 : goal.returns-in-4
unfolding object_from
returns-in-4 c =
    let p = c.own_slots-in-4.result.now in
    let cut : Cut c.args.s.now c.args.k p =
    record { inside = search rules; long = c.requires.0; laid = c.requires.1; part = c.own_slots-in-4.ensures } in
    let tag = sym c.tag_byte.ensures ∙ c.in-4.is in
    c.process_stands.ensures ∙ cut_stands _ _ _ cut 4 tag

pub returns-in-5 : goal.returns-in-5
unfolding object_from
returns-in-5 c =
    let p = c.own_slots-in-5.result.now in
    let cut : Cut c.args.s.now c.args.k p =
    record { inside = search rules; long = c.requires.0; laid = c.requires.1; part = c.own_slots-in-5.ensures } in
    let tag = sym c.tag_byte.ensures ∙ c.in-5.is in
    c.endpoint_stands.ensures ∙ cut_stands _ _ _ cut 5 tag

pub returns-in_default : goal.returns-in_default
returns-in_default c =
    let e = c.tag_byte.ensures in
    c.zeros_in.ensures
    ∙ free_stands c.args.s.now (λ j. (c.type_inv.s j).fits) c.requires.0 c.args.k (search rules)
    (λ z. omega arith) (λ z. omega arith) (λ z. omega arith) (λ z. omega arith) (λ z. omega arith)
