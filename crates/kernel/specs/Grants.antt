-- Packing and unpacking as the kernel offers them, into words that the caller lends: what they answer and what the words then hold.
use Rattle.std.specs.Prelude.{ℕ, List, ◌∷◌, length, drop, ℤ, pos, nat_le}
use Rattle.words.specs.Fields.{address}
use Rattle.words.specs.Grants.{pack, unpack}
use Rattle.words.specs.Refusals.{number}
use Rattle.words.specs.Tests.{choose}
use Rattle.words.specs.Try.{Try, Err, Ok}
use Rattle.kernel.specs.Names.{Grant, Packed}
use Rattle.kernel.specs.Script.{too_few_lent}

pub record WordsResult : Type 0 where
  pub reply : ℤ
  pub words : List ℕ

abbrev pub short : List ℕ → WordsResult
short out = record { reply = too_few_lent; words = out }

-- the words of a grant in front, "−5 for an address off 64 or flags above 63"
abbrev pub packed_into : List ℕ → Try Packed → WordsResult
packed_into out (Ok w) = record { reply = pos 0; words = w.nc ∷ w.p3 ∷ drop 2 out }
packed_into out (Err r) = record { reply = number r; words = out }

unfoldable pub pack_result : ℕ → ℕ → ℕ → List ℕ → WordsResult
pack_result l u f out =
    choose (nat_le 2 (length out)) (packed_into out (pack (record { lower = address l; upper = address u; flags = f }))) (short out)

abbrev pub unpacked_into : List ℕ → Grant → WordsResult
unpacked_into out g = record { reply = pos 0; words = g.lower.0 ∷ g.upper.0 ∷ g.flags ∷ drop 3 out }

unfoldable pub unpack_result : ℕ → ℕ → List ℕ → WordsResult
unpack_result nc p3 out = choose (nat_le 3 (length out)) (unpacked_into out (unpack (record { nc = nc; p3 = p3 }))) (short out)
