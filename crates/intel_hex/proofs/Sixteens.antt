-- Bytes cut into pieces of 16 are pieces that lines can carry, and joined again they are the bytes.
use mathlib.Core.List.{List, [], ◌∷◌}
use mathlib.Core.Path.{◌≡◌, refl}
use Prim.Native.Nat.{ℕ, zero, suc, ◌*◌, ◌<◌}
use native.Mathlib.Omega.{arith}
use lib.ListN.{length, take, drop, length-drop, take-append-drop}
use lib.Seq.{length-take-le}
use Rattle.intel_hex.specs.Bytes.{AllBytes}
use Rattle.intel_hex.specs.Marks.{piece_length}
use Rattle.intel_hex.specs.Tolerance.{Pieces, joined}
use Rattle.intel_hex.specs.Writing.{sixteens}
use Rattle.intel_hex.proofs.EveryLaws.{every_drop, every_take}

pub pieces_sixteen : (n : ℕ) (b : List ℕ) → length b ≡ piece_length * n → AllBytes b → Pieces (sixteens n b)
unfolding sixteens
pieces_sixteen zero b e h = tt
pieces_sixteen (suc n) b e h =
    let k : length (take 16 b) ≡ 16 = length-take-le 16 b (omega arith) in
    let rest = pieces_sixteen n (drop 16 b) (omega (arith, length-drop 16 b)) (every_drop (λ x. x < 256) 16 b h) in
    (omega arith, omega arith, every_take (λ x. x < 256) 16 b h, rest)

pub joined_sixteen : (n : ℕ) (b : List ℕ) → length b ≡ piece_length * n → joined (sixteens n b) ≡ b
unfolding sixteens joined
joined_sixteen zero [] e = refl
joined_sixteen zero (x ∷ xs) e = absurd (omega arith)
joined_sixteen (suc n) b e = rw (joined_sixteen n (drop 16 b) (omega (arith, length-drop 16 b))) (take-append-drop 16 b)
