-- `reading::endpoints::count_at` meets its contract: an endpoint's first word is its count.
use mathlib.Core.Path.{◌∙◌}
use native.Mathlib.Nat.{add-zero}
use borrow.Author.Rules.{rules}
use Rattle.state.proofs.Look.{count_known, count_none}
use Rattle.reading.proofs.Tagged.{tagged}
use Rattle.reading.proofs.endpoints.count_at.Goals as goal

pub returns : goal.returns
returns c = let a = c.args in
    rw add-zero at c.endpoint_word.ensures ∙ tagged a.s.now a.e.0 5 _ _ _ (count_known a.s.now a.e (search rules)) (count_none a.s.now a.e (search rules))
