-- `judging_tables::grants::is_subset` meets its contract: the bits of both are those of the first.
use mathlib.Core.Path.{refl}
use Rattle.words.specs.Rights.{subset}
use Rattle.judging_tables.proofs.grants.is_subset.Goals as goal

pub returns : goal.returns
unfolding subset
returns c = refl
