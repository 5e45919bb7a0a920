-- `kernel::grants::kernel_pack` meets its contract: by the room that is lent and what packing answers.
use Rattle.std.proofs.Common.{w32, le-leb}
use borrow.Author.Tests.{lt-leb}
use mir.ValLaws.{to_z-of_z}
use Rattle.kernel.specs.Grants.{pack_result}
use Rattle.kernel.proofs.Packings.{two_in_front}
use Rattle.kernel.proofs.grants.kernel_pack.Goals as goal

pub returns-then-words-lt2 : goal.returns-then-words-lt2
unfolding pack_result
returns-then-words-lt2 c = rw (lt-leb 2 _ c.if-words-lt2.true)

pub returns-in-Ok : goal.returns-in-Ok
unfolding pack_result
returns-in-Ok c =
    let room = c.if-words-lt2.false in
    rw (le-leb 2 _ room, ← c.pack_grant-packed.ensures, c.in-Ok.is, two_in_front c.args.words.now _ _ room)

pub returns-in-Err : goal.returns-in-Err
unfolding pack_result
returns-in-Err c = rw (le-leb 2 _ c.if-words-lt2.false, ← c.pack_grant-packed.ensures, c.in-Err.is, to_z-of_z w32 c.refusal_number.result (record { sfits = c.refusal_number.type_inv }), c.refusal_number.ensures)
