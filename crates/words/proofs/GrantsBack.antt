-- Packing and unpacking undo each other: on packable grants, and on words with call number 3.
use mathlib.Core.Path.{◌≡◌, refl, sym, ap, ◌∙◌}
use mathlib.Core.Bool.{Bool, true, false}
use Prim.Native.Nat.{ℕ, ◌+◌, ◌*◌, ◌/◌, ◌%◌, ◌^◌, ◌<◌}
use native.Mathlib.Omega.{arith}
use lib.Dec.{eqb, ltb}
use lib.Arith.{digits_div, digits_mod}
use borrow.Author.Tests.{eqb-true, eq-eqb, lt-ltb, ltb-true}
use Rattle.words.specs.Names.{Grant, Packed, CapFlag}
use Rattle.words.specs.Tests.{◌&◌}
use Rattle.words.specs.Try.{Err, Ok, ◌>>◌, need}
use Rattle.words.specs.Fields.{address}
use Rattle.words.specs.Grants.{upper_of, lower_of, unpack, packable, packed, pack}
use Rattle.words.proofs.Tests.{and_left, and_right}
use Rattle.words.proofs.Judged.{ok_eq, not_no}

-- what is packable, as facts
pub record Packable (g : Grant) : Type 0 where
  pub lower : g.lower.0 % 64 ≡ 0
  pub upper : g.upper.0 % 64 ≡ 0
  pub flags : g.flags < 64

pub packable_facts : (g : Grant) → packable g ≡ true → Packable g
unfolding packable
packable_facts g h =
    let r = and_right (eqb (g.lower.0 % 64) 0) (eqb (g.upper.0 % 64) 0 & ltb g.flags 64) h in
    record {
      lower = eqb-true (g.lower.0 % 64) 0 (and_left (eqb (g.lower.0 % 64) 0) (eqb (g.upper.0 % 64) 0 & ltb g.flags 64) h);
      upper = eqb-true (g.upper.0 % 64) 0 (and_left (eqb (g.upper.0 % 64) 0) (ltb g.flags 64) r);
      flags = ltb-true g.flags 64 (and_right (eqb (g.upper.0 % 64) 0) (ltb g.flags 64) r);
    }

pub facts_packable : (g : Grant) → Packable g → packable g ≡ true
unfolding packable ◌&◌
facts_packable g p = rw (eq-eqb _ _ p.lower, eq-eqb _ _ p.upper, lt-ltb _ _ p.flags)

-- the two halves of the packed words
module _ (l u f : ℕ) (hl : l % 64 ≡ 0) (hu : u % 64 ≡ 0) (hf : f < 64) (bl : l < 2 ^ 32) where
  low_half : l % 65536 + f < 65536
  low_half = omega arith

  nc_high : ((u % 65536 + 3) * 65536 + (l % 65536 + f)) / 65536 ≡ u % 65536 + 3
  nc_high = digits_div (u % 65536 + 3) low_half

  nc_low : ((u % 65536 + 3) * 65536 + (l % 65536 + f)) % 65536 ≡ l % 65536 + f
  nc_low = digits_mod (u % 65536 + 3) low_half

  p3_high : (u / 65536 * 65536 + l / 65536) / 65536 ≡ u / 65536
  p3_high = digits_div (u / 65536) (omega arith)

  p3_low : (u / 65536 * 65536 + l / 65536) % 65536 ≡ l / 65536
  p3_low = digits_mod (u / 65536) (omega arith)

  lower_back : l / 65536 * 65536 + (l % 65536 + f) / 64 * 64 ≡ l
  lower_back = omega arith

  upper_back : u / 65536 * 65536 + (u % 65536 + 3) / 64 * 64 ≡ u
  upper_back = omega arith

  flags_back : ((u % 65536 + 3) * 65536 + (l % 65536 + f)) % 64 ≡ f
  flags_back = omega arith

-- "They undo each other on such grants"
pub unpack_packed : (g : Grant) → Packable g → g.lower.0 < 2 ^ 32 → unpack (packed g) ≡ g
unfolding unpack
unpack_packed g p b = λ i. record { lower = address (lo i); upper = address (up i); flags = fl i }
  where
    l : ℕ
    l = g.lower.0

    u : ℕ
    u = g.upper.0

    lo : lower_of (packed g) ≡ l
    lo = rw (nc_low l u g.flags p.lower p.upper p.flags b, p3_low l u g.flags p.lower p.upper p.flags b)
        (lower_back l u g.flags p.lower p.upper p.flags b)

    up : upper_of (packed g) ≡ u
    up = rw (nc_high l u g.flags p.lower p.upper p.flags b, p3_high l u g.flags p.lower p.upper p.flags b)
        (upper_back l u g.flags p.lower p.upper p.flags b)

    fl : (packed g).nc % 64 ≡ g.flags
    fl = flags_back l u g.flags p.lower p.upper p.flags b

pub pack_gives : (g : Grant) → packable g ≡ true → pack g ≡ Ok (packed g)
unfolding pack ◌>>◌ need
pack_gives g h = rw h

pub pack_refuses : (g : Grant) → packable g ≡ false → pack g ≡ Err CapFlag
unfolding pack ◌>>◌ need
pack_refuses g h = rw h

-- ---- and on words with call number 3
module _ (nc p3 : ℕ) (bn : nc < 2 ^ 32) (three : nc / 65536 % 64 ≡ 3) where
  lower_at_slot : (p3 % 65536 * 65536 + nc % 65536 / 64 * 64) % 64 ≡ 0
  lower_at_slot = omega arith

  upper_at_slot : (p3 / 65536 * 65536 + nc / 65536 / 64 * 64) % 64 ≡ 0
  upper_at_slot = omega arith

  lower_low : (p3 % 65536 * 65536 + nc % 65536 / 64 * 64) % 65536 ≡ nc % 65536 / 64 * 64
  lower_low = digits_mod (p3 % 65536) (omega arith)

  lower_high : (p3 % 65536 * 65536 + nc % 65536 / 64 * 64) / 65536 ≡ p3 % 65536
  lower_high = digits_div (p3 % 65536) (omega arith)

  upper_low : (p3 / 65536 * 65536 + nc / 65536 / 64 * 64) % 65536 ≡ nc / 65536 / 64 * 64
  upper_low = digits_mod (p3 / 65536) (omega arith)

  upper_high : (p3 / 65536 * 65536 + nc / 65536 / 64 * 64) / 65536 ≡ p3 / 65536
  upper_high = digits_div (p3 / 65536) (omega arith)

  nc_back : (nc / 65536 / 64 * 64 + 3) * 65536 + (nc % 65536 / 64 * 64 + nc % 64) ≡ nc
  nc_back = omega arith

  p3_back : p3 / 65536 * 65536 + p3 % 65536 ≡ p3
  p3_back = omega arith

  words_packable : Packable (unpack (record { nc = nc; p3 = p3 }))
  unfolding unpack
  words_packable = record { lower = lower_at_slot; upper = upper_at_slot; flags = omega arith }

  packed_unpack : packed (unpack (record { nc = nc; p3 = p3 })) ≡ record { nc = nc; p3 = p3 }
  unfolding unpack
  packed_unpack = λ i. record { nc = n i; p3 = q i }
    where
      n : (packed (unpack (record { nc = nc; p3 = p3 }))).nc ≡ nc
      n = rw (upper_low, lower_low) nc_back

      q : (packed (unpack (record { nc = nc; p3 = p3 }))).p3 ≡ p3
      q = rw (upper_high, lower_high) p3_back

pub unpack_pack : (g : Grant) (w : Packed) → g.lower.0 < 2 ^ 32 → pack g ≡ Ok w → unpack w ≡ g
unpack_pack g w b h = go (packable g) refl
  where
    go : (t : Bool) → packable g ≡ t → unpack w ≡ g
    go true e = ap unpack (ok_eq _ _ (sym h ∙ pack_gives g e)) ∙ unpack_packed g (packable_facts g e) b
    go false e = not_no _ _ _ (sym (pack_refuses g e) ∙ h)

pub pack_unpack : (w : Packed) → w.nc < 2 ^ 32 → w.nc / 65536 % 64 ≡ 3 → pack (unpack w) ≡ Ok w
pack_unpack w b three =
    pack_gives (unpack w) (facts_packable (unpack w) (words_packable w.nc w.p3 b three)) ∙ ap Ok (packed_unpack w.nc w.p3 b three)
