-- `judging_numbers::arguments::top_arg` meets its contract.
use Rattle.std.proofs.Common.{rules}
use Rattle.words.specs.Try.{◌>>=◌, ◌>>◌, need}
use Rattle.rules.specs.Numbers.{top_arg}
use Rattle.judging_numbers.proofs.arguments.top_arg.Goals as goal

pub returns-in_err-object : goal.returns-in_err-object
unfolding top_arg ◌>>=◌ ◌>>◌ need
returns-in_err-object c = search rules

pub returns-then-not-shape_at : goal.returns-then-not-shape_at
unfolding top_arg ◌>>=◌ ◌>>◌ need
returns-then-not-shape_at c = search rules

pub returns : goal.returns
unfolding top_arg ◌>>=◌ ◌>>◌ need
returns c = search rules
