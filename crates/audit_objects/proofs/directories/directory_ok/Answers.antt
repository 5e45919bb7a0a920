-- `audit_objects::directories::directory_ok` meets its contract: its positions lie in the part that its slots are.
use mathlib.Core.Path.{sym, ap, ◌∙◌}
use native.Mathlib.Omega.{arith}
use lib.ListN.{length-take, length-drop}
use borrow.Author.Rules.{rules}
use Rattle.words.proofs.Tests.{and_no}
use Rattle.state.specs.Read.{read}
use Rattle.state.proofs.Few.{few_positions}
use Rattle.rules.specs.WellFormed.{geometric}
use Rattle.audit_objects.proofs.Checks.{apart_laid}
use Rattle.audit_objects.proofs.Asked.{ok_directory, small_size, directory_room, ok_positions}
use Rattle.audit_objects.specs.Names.{Geometry}
use Rattle.audit_objects.proofs.directories.directory_ok.Goals as goal

pub returns-then-not-is_geometric : goal.returns-then-not-is_geometric
returns-then-not-is_geometric c =
    sym (ok_directory (read c.args.s.now) c.args.k c.requires.2
    ∙ and_no _ _ (sym (ap geometric c.shape_at-g.ensures) ∙ sym c.is_geometric.ensures ∙ c.if-not-is_geometric.true))

pub directory_slots-requires : goal.directory_slots-requires
directory_slots-requires c = omega (arith, c.positions_in-n.ensures, few_positions c.args.s.now c.args.k (search rules))

pub overflow_cast-n : goal.overflow_cast-n
overflow_cast-n c =
    let room = directory_room (read c.args.s.now) c.args.k (apart_laid _ c.requires.1) (search rules) c.requires.2 in
    omega (arith, c.positions_in-n.ensures)

pub positions_ok-requires : goal.positions_ok-requires
positions_ok-requires c =
    let shape = c.shape_at-g.ensures in
    let passed = sym (ap geometric shape) ∙ sym c.is_geometric.ensures ∙ c.if-not-is_geometric.false in
    let size = small_size _ passed in
    let room = directory_room (read c.args.s.now) c.args.k (apart_laid _ c.requires.1) (search rules) c.requires.2 in (
      rw c.directory_slots.ensures (simp (length-take, length-drop) (omega (arith, c.positions_in-n.ensures))),
      omega (arith, ap (λ (g : Geometry). g.size) shape),
    )

pub returns : goal.returns
returns c =
    let shape = c.shape_at-g.ensures in
    let passed = sym (ap geometric shape) ∙ sym c.is_geometric.ensures ∙ c.if-not-is_geometric.false in
    let small = c.type_inv.s in
    c.positions_ok.ensures
    ∙ rw (c.directory_slots.ensures, shape, c.positions_in-n.ensures)
    (sym (ok_positions c.args.s.now c.args.k (search rules) (λ i. omega (arith, small i)) c.requires.2 passed))
