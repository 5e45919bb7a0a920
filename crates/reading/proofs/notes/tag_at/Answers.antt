-- `reading::notes::tag_at` meets its contract: a tag up to 5 is the object's, and any other says that nothing stands there.
use mathlib.Core.Path.{sym, ◌∙◌}
use native.Mathlib.Omega.{arith}
use borrow.Author.Rules.{rules}
use Rattle.state.proofs.Look.{tag_known, tag_none}
use Rattle.reading.proofs.notes.tag_at.Goals as goal

pub returns-then-n-le-ENDPOINT_TAG : goal.returns-then-n-le-ENDPOINT_TAG
returns-then-n-le-ENDPOINT_TAG c = let a = c.args in
    let e = c.tag_byte-n.ensures in
    e ∙ sym (tag_known a.s.now a.k (search rules) (omega (arith, e)))

pub returns-else-n-le-ENDPOINT_TAG : goal.returns-else-n-le-ENDPOINT_TAG
returns-else-n-le-ENDPOINT_TAG c = let a = c.args in
    sym (tag_none a.s.now a.k (search rules) (omega (arith, c.tag_byte-n.ensures)))
