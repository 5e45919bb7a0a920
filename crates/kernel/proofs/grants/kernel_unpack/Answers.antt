-- `kernel::grants::kernel_unpack` meets its contract: by the room that is lent.
use Rattle.std.proofs.Common.{arith, length-set, le-leb}
use borrow.Author.Tests.{lt-leb}
use Rattle.kernel.specs.Grants.{unpack_result}
use Rattle.kernel.proofs.Packings.{three_in_front}
use Rattle.kernel.proofs.grants.kernel_unpack.Goals as goal

pub returns-then-words-lt3 : goal.returns-then-words-lt3
unfolding unpack_result
returns-then-words-lt3 c = rw (lt-leb 3 _ c.if-words-lt3.true)

pub bounds-words-1 : goal.bounds-words-1
bounds-words-1 c = omega (arith, length-set c.args.words.now 0 c.unpack_grant-g.result.lower.0, c.if-words-lt3.false)

pub returns : goal.returns
unfolding unpack_result
returns c =
    let room = c.if-words-lt3.false in
    rw (le-leb 3 _ room, ← c.unpack_grant-g.ensures, three_in_front c.args.words.now _ _ _ room)
