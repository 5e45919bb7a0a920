-- `judging_processes::endpoints::judge_delete_endpoint` meets its contract: each return is the rule's, step by step.
use Rattle.std.proofs.Common.{rules}
use Rattle.words.specs.Try.{◌>>=◌, ◌>>◌, need}
use Rattle.words.specs.Tests.{◌&◌}
use Rattle.rules.specs.Calls.{delete_endpoint}
use Rattle.judging_processes.proofs.endpoints.judge_delete_endpoint.Goals as goal

pub returns-in_err-c : goal.returns-in_err-c
unfolding delete_endpoint ◌>>=◌ ◌>>◌ need ◌&◌
returns-in_err-c c = search rules

pub returns-in_err-o : goal.returns-in_err-o
unfolding delete_endpoint ◌>>=◌ ◌>>◌ need ◌&◌
returns-in_err-o c = search rules

pub returns-then-boot_mark_at : goal.returns-then-boot_mark_at
unfolding delete_endpoint ◌>>=◌ ◌>>◌ need ◌&◌
returns-then-boot_mark_at c = search rules

pub returns : goal.returns
unfolding delete_endpoint ◌>>=◌ ◌>>◌ need ◌&◌
returns c = search rules
