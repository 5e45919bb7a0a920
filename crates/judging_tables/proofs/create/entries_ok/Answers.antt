-- `judging_tables::create::entries_ok` meets its contract: each return rewrites with the tests that led there.
use borrow.Author.Tests.{le-leb, lt-leb}
use Rattle.words.specs.Tests.{◌&◌}
use Rattle.judging_tables.proofs.create.entries_ok.Goals as goal

pub returns-then-n-lt1 : goal.returns-then-n-lt1
unfolding ◌&◌
returns-then-n-lt1 c = rw (lt-leb _ _ c.if-n-lt1.true)

pub returns : goal.returns
unfolding ◌&◌
returns c = rw (le-leb _ _ c.if-n-lt1.false)
