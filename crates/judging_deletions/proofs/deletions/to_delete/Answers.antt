-- `judging_deletions::deletions::to_delete` meets its contract: each return is the rule's, step by step, TYPE as `kind` has it.
use Rattle.std.proofs.Common.{rules}
use Rattle.words.specs.Try.{◌>>=◌, ◌>>◌}
use Rattle.rules.specs.Places.{to_delete}
use Rattle.judging_deletions.specs.Deletions.{after_type}
use Rattle.judging_deletions.proofs.deletions.to_delete.Goals as goal

pub returns-in_err-c : goal.returns-in_err-c
unfolding to_delete ◌>>=◌ ◌>>◌
returns-in_err-c g c rule h = search rules

pub returns-in_err-object : goal.returns-in_err-object
unfolding to_delete ◌>>=◌ ◌>>◌
returns-in_err-object g c rule h =
    let told = h _ _ c.in_err-object.ensures in
    search (rules, told)

pub returns : goal.returns
unfolding to_delete after_type ◌>>=◌ ◌>>◌
returns g c rule h =
    let told = h _ _ c.in_ok-object.ensures in
    search (rules, told)
