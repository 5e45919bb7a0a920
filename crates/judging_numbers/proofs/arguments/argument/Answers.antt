-- `judging_numbers::arguments::argument` meets its contract: each return rewrites with the steps that led there.
use Rattle.std.proofs.Common.{rules}
use Rattle.words.specs.Try.{◌>>=◌, ◌>>◌, need}
use Rattle.rules.specs.Numbers.{argument, lookup}
use Rattle.judging_numbers.proofs.arguments.argument.Goals as goal

pub returns-in_err-c : goal.returns-in_err-c
unfolding argument ◌>>=◌ ◌>>◌ need
returns-in_err-c g c rule h = search rules

pub returns-in_err-a : goal.returns-in_err-a
unfolding argument lookup ◌>>=◌ ◌>>◌ need
returns-in_err-a g c rule h =
    let told = h _ _ c.in_err-a.ensures in
    search (rules, told)

pub returns-then-not-has_flag : goal.returns-then-not-has_flag
unfolding argument ◌>>=◌ ◌>>◌ need
returns-then-not-has_flag g c rule h = search rules

pub returns : goal.returns
unfolding argument ◌>>=◌ ◌>>◌ need
returns g c rule h = search rules
