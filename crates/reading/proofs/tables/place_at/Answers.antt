-- `reading::tables::place_at` meets its contract: the entry lies in the part, and past the last one is blank.
use mathlib.Core.Path.{sym, ◌∙◌}
use Prim.Native.Nat.{◌+◌, ◌*◌, ◌<◌}
use native.Mathlib.Omega.{arith}
use borrow.Author.Rules.{rules}
use Rattle.state.proofs.Look.{place_past, place_known}
use Rattle.state.proofs.Parts.{place_part}
use Rattle.state.specs.Read.{read}
use Rattle.words.specs.Sizes.{memory_length, slot_size, entry_size, slots_for}
use Rattle.reading.proofs.Tagged.{few_entries}
use Rattle.reading.proofs.tables.place_at.Goals as goal

pub returns-then-entries-e : goal.returns-then-entries-e
returns-then-entries-e c = let a = c.args in
    sym (place_past (read a.s.now) a.t a.e (rw c.entries_in-entries.ensures at c.if-entries-e.true))

pub table_slots-part-requires : goal.table_slots-part-requires
table_slots-part-requires c = let a = c.args in
    omega (arith, c.entries_in-entries.ensures, few_entries a.s.now a.t (search rules) (omega (arith, c.type_inv.s (memory_length + 1 + 4 * a.t.0))))

pub place_of-requires : goal.place_of-requires
place_of-requires c = let a = c.args in
    omega (arith, c.if-entries-e.false, c.entries_in-entries.ensures, few_entries a.s.now a.t (search rules) (omega (arith, c.type_inv.s (memory_length + 1 + 4 * a.t.0))))

pub returns : goal.returns
returns c = let a = c.args in
    let n = c.entries_in-entries in
    let in-it : a.e < n.result = c.if-entries-e.false in
    c.place_of.ensures
    ∙ rw c.table_slots-part.ensures (place_part a.s.now (slot_size * a.t.0) (slot_size * slots_for (entry_size * n.result)) _ (omega arith))
    ∙ sym (place_known a.s.now a.t a.e (search rules) (rw n.ensures at in-it))
