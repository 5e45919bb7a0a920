-- `judging_processes::changes::judge_change_directory` meets its contract: each return is the rule's, step by step.
use Rattle.std.proofs.Common.{rules}
use Rattle.words.specs.Try.{◌>>=◌, ◌>>◌, need}
use Rattle.words.specs.Tests.{◌&◌}
use Rattle.rules.specs.Calls.{change_directory}
use Rattle.judging_processes.proofs.changes.judge_change_directory.Goals as goal

pub returns-in_err-p : goal.returns-in_err-p
unfolding change_directory ◌>>=◌ ◌>>◌ need ◌&◌
returns-in_err-p c = search rules

pub returns-in_err-d : goal.returns-in_err-d
unfolding change_directory ◌>>=◌ ◌>>◌ need ◌&◌
returns-in_err-d c = search rules

pub returns : goal.returns
unfolding change_directory ◌>>=◌ ◌>>◌ need ◌&◌
returns c = search rules
