-- `judging_pages::map_page::judge_map_page` meets its contract: each return is the rule's, step by step.
use Rattle.std.proofs.Common.{rules}
use Rattle.words.specs.Try.{◌>>=◌, ◌>>◌, need}
use Rattle.rules.specs.Calls.{map_page}
use Rattle.judging_pages.specs.Mapping.{map_addressed, map_in_range}
use Rattle.judging_pages.proofs.map_page.judge_map_page.Goals as goal

pub returns-in_err-d : goal.returns-in_err-d
unfolding map_page ◌>>=◌ ◌>>◌ need
returns-in_err-d c = search rules

pub returns-in_err-x : goal.returns-in_err-x
unfolding map_page ◌>>=◌ ◌>>◌ need
returns-in_err-x c = search rules

pub returns : goal.returns
unfolding map_page map_addressed map_in_range ◌>>=◌ ◌>>◌ need
returns c = search rules
