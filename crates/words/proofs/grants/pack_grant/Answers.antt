-- `words::grants::pack_grant` meets its contract: each return rewrites with the tests that led there.
use borrow.Author.Tests.{eq-eqb, ne_eqb, lt-ltb, le-ltb}
use Rattle.words.specs.Grants.{pack, packable}
use Rattle.words.specs.Try.{◌>>◌, need}
use Rattle.words.specs.Tests.{◌&◌}
use Rattle.words.proofs.grants.pack_grant.Goals as goal

pub returns-then-l-ne0 : goal.returns-then-l-ne0
unfolding pack packable ◌&◌ ◌>>◌ need
returns-then-l-ne0 c = rw (ne_eqb _ _ c.if-l-ne0.true)

pub returns-then-u-ne0 : goal.returns-then-u-ne0
unfolding pack packable ◌&◌ ◌>>◌ need
returns-then-u-ne0 c = rw (eq-eqb _ _ c.if-l-ne0.false, ne_eqb _ _ c.if-u-ne0.true)

pub returns-then-f-ge-FLAG_SETS : goal.returns-then-f-ge-FLAG_SETS
unfolding pack packable ◌&◌ ◌>>◌ need
returns-then-f-ge-FLAG_SETS c = rw (eq-eqb _ _ c.if-l-ne0.false, eq-eqb _ _ c.if-u-ne0.false, le-ltb _ _ c.if-f-ge-FLAG_SETS.true)

pub returns : goal.returns
unfolding pack packable ◌&◌ ◌>>◌ need
returns c = rw (eq-eqb _ _ c.if-l-ne0.false, eq-eqb _ _ c.if-u-ne0.false, lt-ltb _ _ c.if-f-ge-FLAG_SETS.false)
