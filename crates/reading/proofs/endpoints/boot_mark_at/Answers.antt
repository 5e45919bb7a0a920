-- `reading::endpoints::boot_mark_at` meets its contract: an endpoint's second word is its mark, and a word that is not there is none.
use native.Mathlib.Decide.{ℕ_discrete}
use borrow.Author.Rules.{rules}
use borrow.Author.Tests.{eq-eqb, ne_eqb}
use Rattle.state.proofs.Look.{tag_byte, mark_known, mark_none}
use Rattle.reading.proofs.endpoints.boot_mark_at.Goals as goal

pub returns : goal.returns
returns c = let a = c.args in
    rw (c.marked.ensures, c.endpoint_word.ensures) (elim (ℕ_discrete (tag_byte a.s.now a.e.0) 5) [
      | yes e ↦ rw (eq-eqb _ _ e, mark_known a.s.now a.e (search rules) e)
      | no d ↦ rw (ne_eqb _ _ d, mark_none a.s.now a.e (search rules) d)
    ])
