-- `audit_rights::kinds::kind_in` meets its contract: each arm of the match is the choice of `kind_from`.
use borrow.Author.Tests.{ne_eqb}
use Rattle.audit_rights.specs.ByWords.{kind_from}
use Rattle.audit_rights.proofs.kinds.kind_in.Goals as goal

pub returns-in-1 : goal.returns-in-1
unfolding kind_from
returns-in-1 c = rw c.in-1.is

pub returns-in-2 : goal.returns-in-2
unfolding kind_from
returns-in-2 c = rw (c.in-2.is, c.word_in.ensures, c.word_in-in-2.ensures)

pub returns-in-3 : goal.returns-in-3
unfolding kind_from
returns-in-3 c = rw (c.in-3.is, c.word_in-in-3.ensures, c.word_in-in-3-2.ensures)

pub returns-in-4 : goal.returns-in-4
unfolding kind_from
returns-in-4 c = rw c.in-4.is

pub returns-in-5 : goal.returns-in-5
unfolding kind_from
returns-in-5 c = rw c.in-5.is

pub returns-in_default : goal.returns-in_default
unfolding kind_from
returns-in_default c =
    let r = c.in_default.in_default-own.rest in
    rw (
      ne_eqb _ _ r.0.0.0.0.1,
      ne_eqb _ _ r.0.0.0.1,
      ne_eqb _ _ r.0.0.1,
      ne_eqb _ _ r.0.1,
      ne_eqb _ _ r.1,
      c.word_in-in_default.ensures,
      c.word_in-in_default-2.ensures,
    )
