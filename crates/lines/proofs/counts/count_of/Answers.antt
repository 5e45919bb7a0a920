-- `lines::counts::count_of` meets its contract: an answer that is not below 0 is its own count, and only such a one is a `u32`.
use mathlib.Core.Path.{◌≡◌, refl, subst, ◌∙◌}
use native.Mathlib.Omega.{arith}
use lib.IntN.{ℤ, pos, negsuc, nat_abs}
use mir.Syntax.{w32}
use mir.Val.{SFits}
use mir.ValLaws.{to_z-of_z}
use Prim.Native.Nat.{ℕ}
use Rattle.std.specs.Int.{FitsUnsignedBits}
use Rattle.std.specs.Prelude.{Result, Ok, Err}
use Rattle.std.specs.Result.{OkIff, result_unwrap_or}
use Rattle.lines.specs.Counts.{count_of}
use Rattle.lines.proofs.counts.count_of.Goals as goal

counted : {E : Type 0} (z : ℤ) (t : Result ℕ E) → SFits w32 z → OkIff t (FitsUnsignedBits 32 z) (nat_abs z) → result_unwrap_or t 0 ≡ count_of z
counted (pos k) (Ok v) f h = h.1
counted (pos k) (Err e) f h = absurd (h (omega (arith, f.sfits)))
counted (negsuc k) (Ok v) f h = absurd h.0
counted (negsuc k) (Err e) f h = refl

pub returns : goal.returns
returns c =
    let a = c.args in
    let t = c.try_from in
    let own = to_z-of_z w32 a.answer c.ranges.answer in
    c.unwrap_or.ensures ∙ counted a.answer t.result c.ranges.answer (subst (λ (z : ℤ). OkIff t.result (FitsUnsignedBits 32 z) (nat_abs z)) own t.ensures)
