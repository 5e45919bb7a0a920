-- `judging_processes::processes::judge_delete_process` meets its contract: each return is the rule's, step by step.
use Rattle.std.proofs.Common.{rules}
use Rattle.words.specs.Try.{◌>>=◌, ◌>>◌, need}
use Rattle.words.specs.Tests.{◌&◌}
use Rattle.rules.specs.Calls.{delete_process}
use Rattle.judging_processes.proofs.processes.judge_delete_process.Goals as goal

pub returns-in_err-c : goal.returns-in_err-c
unfolding delete_process ◌>>=◌ ◌>>◌ need ◌&◌
returns-in_err-c c = search rules

pub returns-in_err-o : goal.returns-in_err-o
unfolding delete_process ◌>>=◌ ◌>>◌ need ◌&◌
returns-in_err-o c = search rules

pub returns : goal.returns
unfolding delete_process ◌>>=◌ ◌>>◌ need ◌&◌
returns c = search rules
