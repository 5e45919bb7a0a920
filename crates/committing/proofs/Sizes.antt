-- The slots that an object takes, by its tag: what `size_at` reads of a note is enough.
use mathlib.Core.List.{List}
use mathlib.Core.Path.{◌≡◌, refl, ◌∙◌}
use Prim.Native.Nat.{ℕ, ◌+◌, ◌*◌, ◌^◌, ◌<◌, ◌≤◌}
use native.Mathlib.Decide.{dec_lt}
use native.Mathlib.Omega.{arith}
use lib.ListN.{length}
use lib.Pow.{pow_pos}
use borrow.Author.Tests.{le-leb}
use Rattle.words.specs.Sizes.{slot_count, entry_size, header_size, position_size, slots_for}
use Rattle.state.specs.State.{Object, free, body, table, directory, process, endpoint, size_of, places_of, positions_of, obj_at}
use Rattle.state.specs.Bytes.{tag_of}
use Rattle.state.specs.Read.{positions_for, read}
use Rattle.state.proofs.Few.{few_for}
use Rattle.state.proofs.Look.{tag_byte, argument_byte, tag_known, tag_none, entries_known}
use Rattle.committing.specs.Names.{Slot}

pub part_size : (o : Object) → tag_of o ≡ 1 → size_of o ≡ 0
part_size free h = absurd (omega arith)
part_size (body f) h = refl
part_size (table ps) h = absurd (omega arith)
part_size (directory g es) h = absurd (omega arith)
part_size (process t d) h = absurd (omega arith)
part_size (endpoint c b) h = absurd (omega arith)

table_size : (o : Object) → tag_of o ≡ 2 → size_of o ≡ slots_for (entry_size * length (places_of o))
table_size free h = absurd (omega arith)
table_size (body f) h = absurd (omega arith)
table_size (table ps) h = refl
table_size (directory g es) h = absurd (omega arith)
table_size (process t d) h = absurd (omega arith)
table_size (endpoint c b) h = absurd (omega arith)

pub directory_size : (o : Object) → tag_of o ≡ 3 → size_of o ≡ slots_for (header_size + position_size * length (positions_of o))
directory_size free h = absurd (omega arith)
directory_size (body f) h = absurd (omega arith)
directory_size (table ps) h = absurd (omega arith)
directory_size (directory g es) h = refl
directory_size (process t d) h = absurd (omega arith)
directory_size (endpoint c b) h = absurd (omega arith)

pub one_slot : (o : Object) → (tag_of o ≡ 1 → ⊥) → (tag_of o ≡ 2 → ⊥) → (tag_of o ≡ 3 → ⊥) → size_of o ≡ 1
one_slot free h i j = refl
one_slot (body f) h i j = absurd (h refl)
one_slot (table ps) h i j = absurd (i refl)
one_slot (directory g es) h i j = absurd (j refl)
one_slot (process t d) h i j = refl
one_slot (endpoint c b) h i j = refl

module _ (b : List ℕ) (t : Slot) (ht : t.0 < slot_count) where
  -- what stands there is what the note's tag says
  note_tag : tag_of (obj_at (read b) t) ≡ 2 → tag_byte b t.0 ≡ 2
  note_tag h = elim (dec_lt 5 (tag_byte b t.0)) [
    | yes l ↦ absurd (omega (arith, tag_none b t ht l))
    | no n ↦ omega (arith, tag_known b t ht (omega arith))
  ]

  pub table_there : tag_of (obj_at (read b) t) ≡ 2 → size_of (obj_at (read b) t) ≡ slots_for (entry_size * argument_byte b t.0)
  table_there h = rw (← entries_known b t ht (note_tag h)) (table_size (obj_at (read b) t) h)

-- "2^k entries, k from 1 to 8"
pub width : (k : ℕ) → k ≤ 8 → positions_for k ≡ 2 ^ k
unfolding positions_for
width k h = rw (le-leb k 8 h)

pub widths : (k n : ℕ) → k ≤ 8 → n ≡ positions_for k → (n ≡ 2 ^ k) × (1 ≤ n) × (n ≤ 256)
widths k n h e = (e ∙ width k h, omega (arith, e, width k h, pow_pos k), omega (arith, e, few_for k))
