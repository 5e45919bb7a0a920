-- `judging_numbers::kinds::as_directory_object` meets its contract.
use Rattle.std.proofs.Common.{rules}
use Rattle.words.specs.Try.{◌>>=◌}
use Rattle.rules.specs.Calls.{as_directory_object}
use Rattle.judging_numbers.proofs.kinds.as_directory_object.Goals as goal

pub returns-in_err-as_directory : goal.returns-in_err-as_directory
unfolding as_directory_object ◌>>=◌
returns-in_err-as_directory c = search rules

pub returns : goal.returns
unfolding as_directory_object ◌>>=◌
returns c = search rules
