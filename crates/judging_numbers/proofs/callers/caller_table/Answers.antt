-- `judging_numbers::callers::caller_table` meets its contract: a caller is a slot first, as the rule's steps have it.
use Rattle.std.proofs.Common.{rules}
use Rattle.words.specs.Try.{◌>>=◌}
use Rattle.judging_numbers.proofs.CallerTable.{caller_steps}
use Rattle.judging_numbers.proofs.callers.caller_table.Goals as goal

pub returns-in_err-k : goal.returns-in_err-k
unfolding ◌>>=◌
returns-in_err-k c =
    let steps = caller_steps c.args.s.now c.args.caller in
    search (rules, steps)

pub returns : goal.returns
unfolding ◌>>=◌
returns c =
    let steps = caller_steps c.args.s.now c.args.caller in
    search (rules, steps)
