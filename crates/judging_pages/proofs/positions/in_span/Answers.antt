-- `judging_pages::positions::in_span` meets its contract: each return rewrites with the tests that led there.
use borrow.Author.Tests.{le-leb, lt-leb}
use Rattle.words.specs.Tests.{◌&◌}
use Rattle.judging_pages.proofs.positions.in_span.Goals as goal

pub returns-then-i-d : goal.returns-then-i-d
unfolding ◌&◌
returns-then-i-d c = rw (lt-leb _ _ c.if-i-d.true)

pub returns : goal.returns
unfolding ◌&◌
returns c = rw (le-leb _ _ c.if-i-d.false)
