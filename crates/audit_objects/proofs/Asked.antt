-- What is asked of an object, by its tag and by the accessors that the readers promise.
use mathlib.Core.Bool.{Bool, false, true}
use mathlib.Core.List.{List}
use mathlib.Core.Path.{ap, refl, sym, ◌∙◌, ◌≡◌}
use Prim.Native.Nat.{◌*◌, ◌+◌, ◌<◌, ◌^◌, ℕ, ◌≤◌}
use native.Mathlib.Omega.{arith}
use lib.Dec.{eqb, leb, ltb}
use lib.ListN.{drop, get_or, take}
use borrow.Author.Tests.{eq-eqb, eqb-false, eqb-true, le-leb, leb-false, leb-true, lt-ltb}
use Rattle.audit_entries.proofs.Bounded.{all_agree}
use Rattle.rules.specs.WellFormed.{geometric, object_ok, position_ok, runs}
use Rattle.state.proofs.Look.{argument_byte, count_known, count_none, position_known, shape_known, tag_known, tag_none, tag_byte, width_known}
use Rattle.state.proofs.Parts.{position_part}
use Rattle.state.proofs.Sizes.{object_room}
use Rattle.state.proofs.Write.{is_process}
use Rattle.state.specs.Bytes.{tag_of}
use Rattle.state.specs.Layout.{Laid}
use Rattle.state.specs.Read.{position_of, positions_for, read}
use Rattle.state.specs.State.{Object, State, body, count_of, directory, directory_named, endpoint, entries_in, free, obj_at, places_of, position_at, positions_in, positions_of, process, shape_at, shape_of, size_of, table, table_named}
use Rattle.words.proofs.Tests.{and_left, and_right, and_yes}
use Rattle.words.specs.Sizes.{header_size, memory_length, most_entries, position_size, slot_count, slot_size, slots_for}
use Rattle.words.specs.Tests.{◌&◌, all_below}
use Rattle.audit_objects.specs.Names.{Geometry, Slot}
use Rattle.audit_objects.proofs.Checks.{word_small}

-- what stands in a slot, by its tag
table_of_tag : (o : Object) → tag_of o ≡ 2 → o ≡ table (places_of o)
table_of_tag free h = absurd (omega arith)
table_of_tag (body f) h = absurd (omega arith)
table_of_tag (table ps) h = refl
table_of_tag (directory g es) h = absurd (omega arith)
table_of_tag (process t d) h = absurd (omega arith)
table_of_tag (endpoint c b) h = absurd (omega arith)

directory_of_tag : (o : Object) → tag_of o ≡ 3 → o ≡ directory (shape_of o) (positions_of o)
directory_of_tag free h = absurd (omega arith)
directory_of_tag (body f) h = absurd (omega arith)
directory_of_tag (table ps) h = absurd (omega arith)
directory_of_tag (directory g es) h = refl
directory_of_tag (process t d) h = absurd (omega arith)
directory_of_tag (endpoint c b) h = absurd (omega arith)

module _ (st : State) (k : Slot) where
  pub ok_table : tag_of (obj_at st k) ≡ 2 → object_ok st k (obj_at st k) ≡ (leb 1 (entries_in st k) & leb (entries_in st k) most_entries)
  unfolding object_ok
  ok_table e = ap (object_ok st k) (table_of_tag (obj_at st k) e)

  pub ok_process : tag_of (obj_at st k) ≡ 4 → object_ok st k (obj_at st k) ≡ runs st (table_named (obj_at st k)) (directory_named (obj_at st k))
  unfolding object_ok
  ok_process e = ap (object_ok st k) (is_process (obj_at st k) e)

  pub ok_directory : tag_of (obj_at st k) ≡ 3
      → object_ok st k (obj_at st k)
      ≡ (geometric (shape_at st k) & ltb (shape_at st k).start (2 ^ 32) & eqb (positions_in st k) (2 ^ (shape_at st k).number)
      & all_below (positions_in st k) (λ i. position_ok st (shape_at st k) (position_at st k i)))
  unfolding object_ok
  ok_directory e = ap (object_ok st k) (directory_of_tag (obj_at st k) e)

  -- nothing is asked of the rest but that a count fits a word
  pub ok_else : (tag_of (obj_at st k) ≡ 2 → ⊥) → (tag_of (obj_at st k) ≡ 3 → ⊥) → (tag_of (obj_at st k) ≡ 4 → ⊥)
      → count_of (obj_at st k) < 2 ^ 32 → object_ok st k (obj_at st k) ≡ true
  unfolding object_ok
  ok_else d2 d3 d4 h = go (obj_at st k) d2 d3 d4 h
    where
      go : (o : Object) → (tag_of o ≡ 2 → ⊥) → (tag_of o ≡ 3 → ⊥) → (tag_of o ≡ 4 → ⊥) → count_of o < 2 ^ 32 → object_ok st k o ≡ true
      go free d2 d3 d4 h = refl
      go (body f) d2 d3 d4 h = refl
      go (table ps) d2 d3 d4 h = absurd (d2 refl)
      go (directory g es) d2 d3 d4 h = absurd (d3 refl)
      go (process t d) d2 d3 d4 h = absurd (d4 refl)
      go (endpoint c b) d2 d3 d4 h = lt-ltb _ _ h

-- the tag that a note has, where it is an object's
tagged : (b : List ℕ) (k : Slot) → k.0 < slot_count → (n : ℕ) → 1 ≤ n → tag_of (obj_at (read b) k) ≡ n → tag_byte b k.0 ≡ n
tagged b k hk n h e = go (leb (tag_byte b k.0) 5) refl
  where
    go : (z : Bool) → leb (tag_byte b k.0) 5 ≡ z → tag_byte b k.0 ≡ n
    go true q = sym (tag_known b k hk (leb-true _ _ q)) ∙ e
    go false q = absurd (omega (arith, tag_none b k hk (leb-false _ _ q)))

-- ---- what a geometry that passes shows
pub small_size : (g : Geometry) → geometric g ≡ true → g.size ≤ 31
unfolding geometric
small_size g h = leb-true _ _ (and_left _ _ (and_right _ _ h))

small_number : (g : Geometry) → geometric g ≡ true → g.number ≤ 8
unfolding geometric
small_number g h = leb-true _ _ (and_left _ _ (and_right _ _ (and_right _ _ (and_right _ _ h))))

-- "2^k entries, k from 1 to 8"
all_positions : (b : List ℕ) (k : Slot) → k.0 < slot_count → tag_of (obj_at (read b) k) ≡ 3 → geometric (shape_at (read b) k) ≡ true
    → positions_in (read b) k ≡ 2 ^ (shape_at (read b) k).number
unfolding positions_for
all_positions b k hk e h =
    let tag = tagged b k hk 3 (omega arith) e in
    let same : (shape_at (read b) k).number ≡ argument_byte b k.0 = ap (λ (g : Geometry). g.number) (shape_known b k hk tag) in
    let few : argument_byte b k.0 ≤ 8 = omega (arith, small_number (shape_at (read b) k) h) in
    width_known b k hk tag ∙ rw (le-leb _ _ few, same)

-- a directory's slots lie in kernel memory
pub directory_room : (st : State) (k : Slot) → Laid st → k.0 < slot_count → tag_of (obj_at st k) ≡ 3
    → slot_size * k.0 + slot_size * slots_for (header_size + position_size * positions_in st k) ≤ memory_length
directory_room st k w hk e = omega (arith, ap size_of (directory_of_tag (obj_at st k) e), object_room st w k.0 hk (λ z. omega arith))

-- what is left to ask of a directory whose geometry passes: each of its positions, as they stand in the part that its slots are
pub ok_positions : (b : List ℕ) (k : Slot) → k.0 < slot_count → ((i : ℕ) → get_or b i 0 < 256) → tag_of (obj_at (read b) k) ≡ 3 → geometric (shape_at (read b) k) ≡ true
    → object_ok (read b) k (obj_at (read b) k)
    ≡ all_below (positions_in (read b) k)
    (λ i. position_ok (read b) (shape_at (read b) k)
    (position_of (take (slot_size * slots_for (header_size + position_size * positions_in (read b) k)) (drop (slot_size * k.0) b)) (header_size + position_size * i)))
ok_positions b k hk f e h =
    let n : ℕ = positions_in (read b) k in
    let start : (shape_at (read b) k).start < 2 ^ 32 =
    rw (ap (λ (g : Geometry). g.start) (shape_known b k hk (tagged b k hk 3 (omega arith) e))) (word_small b _ f) in
    ok_directory (read b) k e
    ∙ and_yes _ _ h
    ∙ and_yes _ _ (lt-ltb _ _ start)
    ∙ and_yes _ _ (eq-eqb _ _ (all_positions b k hk e h))
    ∙ all_agree n _ _
    (λ i l. ap (position_ok (read b) (shape_at (read b) k))
    (position_known b k i hk l
    ∙ sym (position_part b (slot_size * k.0) (slot_size * slots_for (header_size + position_size * n)) (header_size + position_size * i) (omega arith))))

-- a count is a word
pub count_small : (b : List ℕ) (k : Slot) → k.0 < slot_count → ((i : ℕ) → get_or b i 0 < 256) → count_of (obj_at (read b) k) < 2 ^ 32
count_small b k hk f = go (eqb (tag_byte b k.0) 5) refl
  where
    go : (z : Bool) → eqb (tag_byte b k.0) 5 ≡ z → count_of (obj_at (read b) k) < 2 ^ 32
    go true e = rw (count_known b k hk (eqb-true _ _ e)) (word_small b _ f)
    go false e = rw (count_none b k hk (eqb-false _ _ e)) (omega arith)
