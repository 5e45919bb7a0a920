-- `judging_endpoints::receive::most` meets its contract: by the test that led to each return.
use borrow.Author.Tests.{eq-eqb, ne_eqb}
use Rattle.judging_endpoints.proofs.receive.most.Goals as goal

pub returns-then-o-eq-OPTION_NS : goal.returns-then-o-eq-OPTION_NS
returns-then-o-eq-OPTION_NS c = rw (eq-eqb _ _ c.if-o-eq-OPTION_NS.true)

pub returns : goal.returns
returns c = rw (ne_eqb _ _ c.if-o-eq-OPTION_NS.false)
