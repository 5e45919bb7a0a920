-- `digits::digit_for` meets its contract.
use borrow.Author.Tests.{lt-ltb, le-ltb}
use Rattle.digits.specs.Digits.{digit_for}
use Rattle.digits.proofs.digit_for.Goals as goal

pub returns-then-n-lt10 : goal.returns-then-n-lt10
unfolding digit_for
returns-then-n-lt10 c = rw (lt-ltb _ _ c.if-n-lt10.true)

pub returns-else-n-lt10 : goal.returns-else-n-lt10
unfolding digit_for
returns-else-n-lt10 c = rw (le-ltb _ _ c.if-n-lt10.false)
