-- `judging_pages::remove_page::judge_remove_page` meets its contract: each return is the rule's, step by step.
use Rattle.std.proofs.Common.{rules}
use Rattle.words.specs.Try.{◌>>=◌, ◌>>◌, need}
use Rattle.words.specs.Tests.{◌&◌}
use Rattle.rules.specs.Calls.{remove_page}
use Rattle.judging_pages.proofs.remove_page.judge_remove_page.Goals as goal

pub returns-in_err-d : goal.returns-in_err-d
unfolding remove_page ◌>>=◌ ◌>>◌ need ◌&◌
returns-in_err-d c = search rules

pub returns-then-positions_in-i : goal.returns-then-positions_in-i
unfolding remove_page ◌>>=◌ ◌>>◌ need ◌&◌
returns-then-positions_in-i c = search rules

pub returns-then-not-in_span : goal.returns-then-not-in_span
unfolding remove_page ◌>>=◌ ◌>>◌ need ◌&◌
returns-then-not-in_span c = search rules

pub returns-in_err-as_page : goal.returns-in_err-as_page
unfolding remove_page ◌>>=◌ ◌>>◌ need ◌&◌
returns-in_err-as_page c = search rules

pub returns : goal.returns
unfolding remove_page ◌>>=◌ ◌>>◌ need ◌&◌
returns c = search rules
