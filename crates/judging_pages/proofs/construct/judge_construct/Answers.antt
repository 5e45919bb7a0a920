-- `judging_pages::construct::judge_construct` meets its contract: each return is the rule's, step by step.
use Rattle.std.proofs.Common.{rules}
use Rattle.words.specs.Try.{◌>>=◌, ◌>>◌, need}
use Rattle.rules.specs.Calls.{construct}
use Rattle.judging_pages.specs.Hanging.{hang_under}
use Rattle.judging_pages.proofs.construct.judge_construct.Goals as goal

pub returns-in_err-p : goal.returns-in_err-p
unfolding construct ◌>>=◌ ◌>>◌ need
returns-in_err-p c = search rules

pub returns-in_err-x : goal.returns-in_err-x
unfolding construct ◌>>=◌ ◌>>◌ need
returns-in_err-x c = search rules

pub returns : goal.returns
unfolding construct hang_under ◌>>=◌ ◌>>◌ need
returns c = search rules
