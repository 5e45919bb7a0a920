-- `audit_entries::word_in` meets its contract: the four bytes that it joins are those of `word_at`.
use borrow.Author.Rules.{rules}
use Rattle.state.specs.Read.{word_at}
use Rattle.audit_entries.proofs.word_in.Goals as goal

pub returns : goal.returns
unfolding word_at
returns c = search rules
