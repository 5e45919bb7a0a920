-- `judging_numbers::lookups::has_flag` meets its contract: a shift to the right is the quotient by the power of 2.
use mathlib.Core.Path.{refl}
use Rattle.words.specs.Rights.{has}
use Rattle.judging_numbers.proofs.lookups.has_flag.Goals as goal

pub returns : goal.returns
unfolding has
returns c = refl
