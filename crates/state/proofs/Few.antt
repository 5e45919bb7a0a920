-- A directory that is read from a buffer has at most 256 positions, whatever the bytes.
use mathlib.Core.Bool.{Bool, false, true}
use mathlib.Core.List.{List}
use mathlib.Core.Path.{refl, ◌≡◌}
use Prim.Native.Nat.{◌<◌, ◌^◌, ℕ, ◌≤◌}
use native.Mathlib.Decide.{ℕ_discrete}
use native.Mathlib.Omega.{arith}
use lib.Dec.{leb}
use lib.Pow.{pow_mono}
use borrow.Author.Tests.{leb-true}
use Rattle.words.specs.Sizes.{slot_count}
use Rattle.words.specs.Tests.{choose}
use Rattle.state.specs.Names.{Slot}
use Rattle.state.specs.Read.{positions_for, read}
use Rattle.state.specs.State.{positions_in}
use Rattle.state.proofs.Look.{argument_byte, tag_byte, width_known, width_none}

-- "2^k entries, k from 1 to 8"
pub few_for : (k : ℕ) → positions_for k ≤ 256
unfolding positions_for
few_for k = go (leb k 8) refl
  where
    go : (z : Bool) → leb k 8 ≡ z → choose z (2 ^ k) 0 ≤ 256
    go true e = pow_mono {i = k} {j = 8} (leb-true _ _ e)
    go false e = omega arith

pub few_positions : (b : List ℕ) (t : Slot) → t.0 < slot_count → positions_in (read b) t ≤ 256
few_positions b t h = elim (ℕ_discrete (tag_byte b t.0) 3) [
  | yes e ↦ omega (arith, width_known b t h e, few_for (argument_byte b t.0))
  | no d ↦ omega (arith, width_none b t h d)
]
