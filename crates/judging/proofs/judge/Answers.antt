-- `judging::judge` meets its contract: each return is the rule's, step by step.
use Rattle.std.proofs.Common.{rules}
use Rattle.words.specs.Try.{◌>>=◌, ◌>>◌, need}
use Rattle.rules.specs.Calls.{plan}
use Rattle.judging.proofs.judge.Goals as goal

pub returns-in_err-t : goal.returns-in_err-t
unfolding plan ◌>>=◌ ◌>>◌ need
returns-in_err-t c = search rules

pub returns : goal.returns
unfolding plan ◌>>=◌ ◌>>◌ need
returns c = search rules
