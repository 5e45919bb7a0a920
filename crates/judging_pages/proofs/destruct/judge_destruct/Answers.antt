-- `judging_pages::destruct::judge_destruct` meets its contract: each return is the rule's, step by step.
use Rattle.std.proofs.Common.{rules}
use Rattle.words.specs.Try.{◌>>=◌, ◌>>◌, need}
use Rattle.words.specs.Tests.{◌&◌}
use Rattle.rules.specs.Calls.{destruct}
use Rattle.judging_pages.proofs.destruct.judge_destruct.Goals as goal

pub returns-in_err-d : goal.returns-in_err-d
unfolding destruct ◌>>=◌ ◌>>◌ need ◌&◌
returns-in_err-d c = search rules

pub returns-then-positions_in-i : goal.returns-then-positions_in-i
unfolding destruct ◌>>=◌ ◌>>◌ need ◌&◌
returns-then-positions_in-i c = search rules

pub returns-then-not-in_span : goal.returns-then-not-in_span
unfolding destruct ◌>>=◌ ◌>>◌ need ◌&◌
returns-then-not-in_span c = search rules

pub returns-then-not-is_child : goal.returns-then-not-is_child
unfolding destruct ◌>>=◌ ◌>>◌ need ◌&◌
returns-then-not-is_child c = search rules

pub returns : goal.returns
unfolding destruct ◌>>=◌ ◌>>◌ need ◌&◌
returns c = search rules
