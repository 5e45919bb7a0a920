-- Memory grants: "upper address = P3.D1 over N[15:6] and six zeros, lower = P3.D0 over C[15:6] and six zeros, flags = C[5:0]".
use Rattle.std.specs.Prelude.{Bool, ℕ, ◌+◌, ◌*◌, ◌/◌, ◌%◌, eqb, ltb}
use Rattle.words.specs.Names.{Grant, Packed, CapFlag}
use Rattle.words.specs.Tests.{◌&◌}
use Rattle.words.specs.Try.{Try, Ok, ◌>>◌, need}
use Rattle.words.specs.Fields.{address, D1, D0}

-- "unpacking takes every pair of words"
abbrev pub upper_of : Packed → ℕ
upper_of w = D1 w.p3 * 65536 + D1 w.nc / 64 * 64

abbrev pub lower_of : Packed → ℕ
lower_of w = D0 w.p3 * 65536 + D0 w.nc / 64 * 64

unfoldable pub unpack : Packed → Grant
unpack w = record { lower = address (lower_of w); upper = address (upper_of w); flags = w.nc % 64 }

-- "Packing writes call number 3 and gives −5 for an address off 64 or flags above 63"
unfoldable pub packable : Grant → Bool
packable g = eqb (g.lower.0 % 64) 0 & eqb (g.upper.0 % 64) 0 & ltb g.flags 64

abbrev pub packed : Grant → Packed
packed g = record { nc = (D0 g.upper.0 + 3) * 65536 + (D0 g.lower.0 + g.flags); p3 = D1 g.upper.0 * 65536 + D1 g.lower.0 }

unfoldable pub pack : Grant → Try Packed
pack g = do
  need (packable g) CapFlag
  Ok (packed g)
