-- `words::grants::unpack_grant` meets its contract: its sums are those of `unpack`.
use mathlib.Core.Path.{refl}
use Rattle.words.specs.Grants.{unpack}
use Rattle.words.proofs.grants.unpack_grant.Goals as goal

pub returns : goal.returns
unfolding unpack
returns c = refl
