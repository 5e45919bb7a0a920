-- Reading what was written gives back the bytes.
use mathlib.Core.Bool.{true, false}
use mathlib.Core.List.{List}
use mathlib.Core.Path.{◌≡◌, ap, ◌∙◌}
use Prim.Native.Nat.{ℕ}
use native.Mathlib.Omega.{arith}
use lib.ListN.{length}
use Rattle.words.specs.Sizes.{state_length}
use Rattle.intel_hex.specs.Bytes.{AllBytes}
use Rattle.intel_hex.specs.Marks.{piece_count}
use Rattle.intel_hex.specs.Reading.{gives, read_text}
use Rattle.intel_hex.specs.Writing.{sixteens, written}
use Rattle.intel_hex.proofs.Sixteens.{joined_sixteen, pieces_sixteen}
use Rattle.intel_hex.proofs.Uniform.{read_text_lem}

-- "Reading what we wrote returns the same state"
pub read_written : (b : List ℕ) → length b ≡ state_length → AllBytes b → read_text (written b) ≡ gives b
unfolding written
read_written b e h =
    let j = joined_sixteen piece_count b (omega (arith, e)) in
    read_text_lem true false (sixteens piece_count b) (pieces_sixteen piece_count b (omega (arith, e)) h) (ap length j ∙ e) ∙ ap gives j

-- and two states have two texts
pub written_apart : (b c : List ℕ) → length b ≡ state_length → length c ≡ state_length → AllBytes b → AllBytes c → written b ≡ written c → b ≡ c
written_apart b c e f h k q = let u = read_written b e h in let v = read_written c f k in let w = ap read_text q in cc
