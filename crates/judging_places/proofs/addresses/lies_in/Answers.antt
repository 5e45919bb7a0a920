-- `judging_places::addresses::lies_in` meets its contract: each test is the rule's.
use Rattle.std.proofs.Common.{rules, eq-eqb, ne_eqb, le-leb}
use borrow.Author.Tests.{lt-leb}
use mathlib.Core.Logic.{inl, inr}
use Rattle.words.specs.Tests.{◌&◌}
use Rattle.judging_places.proofs.addresses.lies_in.Goals as goal
use Rattle.judging_places.proofs.addresses.lies_in.Goals.{then-at-eq0, else-at-eq0}

pub returns-then-m-at : goal.returns-then-m-at
unfolding ◌&◌
returns-then-m-at c = rw (eq-eqb _ _ c.if-m-at.true.0, le-leb _ _ c.if-m-at.true.1)

pub returns-else-m-at : goal.returns-else-m-at
unfolding ◌&◌
returns-else-m-at c =
    let found = c.if-m-at.either in
    elim c.if-at-eq0.branch [
      | then-at-eq0 w ↦ elim found [
        | inl p ↦ rw (w.t-6-is, eq-eqb _ _ w.if-at-eq0.true, lt-leb _ _ p.1)
        | inr q ↦ absurd (q w.if-at-eq0.true)
      ]
      | else-at-eq0 w ↦ rw (w.t-6-is, ne_eqb _ _ w.if-at-eq0.false)
    ]
