-- `audit_rights::rights::table_ok` meets its contract: its entries lie in the part that its slots are, and where it has none there is nothing to ask.
use mathlib.Core.Path.{◌≡◌, sym, ◌∙◌}
use borrow.Author.Rules.{rules}
use borrow.Author.Tests.{eq-eqb}
use Rattle.words.proofs.Tests.{all_zero}
use Rattle.state.specs.Read.{read}
use Rattle.state.specs.State.{entries_in}
use Rattle.rules.specs.WellFormed.{right}
use Rattle.audit_rights.specs.ButChain.{right_but_chain}
use Rattle.audit_objects.proofs.Checks.{apart_laid}
use Rattle.audit_rights.proofs.Walked.{entries_part}
use Rattle.audit_entries.proofs.Entries.{entries_few, part_room}
use Rattle.audit_rights.proofs.rights.table_ok.Goals as goal

pub returns-then-n-eq0 : goal.returns-then-n-eq0
returns-then-n-eq0 c =
    let a = c.args in
    let none : entries_in (read a.s.now) a.t ≡ 0 = sym c.entries_in-n.ensures ∙ c.if-n-eq0.true in
    eq-eqb _ _ c.if-n-eq0.true ∙ sym (rw none (all_zero _))

pub table_slots-requires : goal.table_slots-requires
table_slots-requires c = rw c.entries_in-n.ensures (entries_few (read c.args.s.now) (apart_laid _ c.requires.1) c.args.t)

pub entries_ok-requires : goal.entries_ok-requires
entries_ok-requires c =
    let room = part_room c.args.s.now c.requires.0 c.args.t (search rules) (apart_laid _ c.requires.1) in
    (c.requires.0, rw (c.table_slots.ensures, c.entries_in-n.ensures) room)

pub returns-else-n-eq0 : goal.returns-else-n-eq0
returns-else-n-eq0 c =
    let asks = right (right_but_chain (read c.args.s.now)) in
    c.entries_ok.ensures
    ∙ rw (c.table_slots.ensures, c.entries_in-n.ensures)
    (sym (entries_part asks c.args.s.now c.requires.0 c.args.t (search rules)))
