-- `audit_chains::parent_of` meets its contract: a place that holds a right is one of 512, and stands in the slot of half its number.
use mathlib.Core.Path.{◌≡◌}
use Prim.Native.Nat.{◌%◌, ◌*◌, ◌+◌}
use native.Mathlib.Omega.{arith}
use Rattle.std.proofs.lemmas.Grind.{common_steps}
use Rattle.state.specs.Read.{read, word_at}
use Rattle.words.specs.Sizes.{entry_size}
use Rattle.audit_chains.specs.Chains.{codes}
use Rattle.audit_chains.proofs.Entry.{numbered_code, numbered_room, numbered_small}
use Rattle.audit_chains.proofs.parent_of.Goals as goal

pub overflow_cast-x : goal.overflow_cast-x
overflow_cast-x c = omega (arith, numbered_small c.args.s.now c.requires.0.laid c.args.x c.requires.1)

pub parent_in-requires : goal.parent_in-requires
parent_in-requires c = rw c.slots_from.ensures (numbered_room c.args.s.now c.requires.0.laid c.args.x c.requires.1 c.requires.0.size)

pub returns-clause-root : goal.returns-clause-root
returns-clause-root c =
    let code : codes (read c.args.s.now) c.args.x ≡ word_at c.slots_from.result.now (entry_size * (c.args.x % 2) + 28) + 1 =
    rw c.slots_from.ensures (numbered_code c.args.s.now c.requires.0.laid c.args.x c.requires.1) in
    grind (arith, common_steps, code)

pub returns-clause-child : goal.returns-clause-child
returns-clause-child c =
    let code : codes (read c.args.s.now) c.args.x ≡ word_at c.slots_from.result.now (entry_size * (c.args.x % 2) + 28) + 1 =
    rw c.slots_from.ensures (numbered_code c.args.s.now c.requires.0.laid c.args.x c.requires.1) in
    grind (arith, common_steps, code)
