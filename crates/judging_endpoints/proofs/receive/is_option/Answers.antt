-- `judging_endpoints::receive::is_option` meets its contract: by the test that led to each return.
use borrow.Author.Tests.{eq-eqb, ne_eqb}
use Rattle.words.specs.Tests.{◌or◌}
use Rattle.judging_endpoints.proofs.receive.is_option.Goals as goal

pub returns-then-o-eq-OPTION_NS : goal.returns-then-o-eq-OPTION_NS
unfolding ◌or◌
returns-then-o-eq-OPTION_NS c = rw (eq-eqb _ _ c.if-o-eq-OPTION_NS.true)

pub returns : goal.returns
unfolding ◌or◌
returns c = rw (ne_eqb _ _ c.if-o-eq-OPTION_NS.false)
