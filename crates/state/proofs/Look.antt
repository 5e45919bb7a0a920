-- What the bytes of any buffer say of the state that it is read as: the read laws, with no condition on the buffer, so that a
-- total reader may promise what stands in `read`.
use mathlib.Core.Path.{◌≡◌, refl, sym, ◌∙◌, ap}
use mathlib.Core.Bool.{Bool, true, false}
use mathlib.Core.List.{List, []}
use Prim.Native.Nat.{ℕ, zero, suc, ◌+◌, ◌*◌, ◌<◌, ◌≤◌}
use native.Mathlib.Nat.{not-suc-le-zero, le_of_suc-le-suc, add-zero}
use native.Mathlib.Omega.{arith}
use lib.Dec.{eqb}
use lib.ListN.{length, get_or, drop, get_or-eq_default}
use lib.Seq.{get_or-drop}
use borrow.Author.Tests.{eqb-true, eqb-false}
use Rattle.words.specs.Sizes.{slot_size, slot_count, memory_length, clock_offset, entry_size, header_size}
use Rattle.words.specs.Fields.{slot, count}
use Rattle.state.specs.Names.{Slot, Count, Geometry, Place, Position, None, Empty}
use Rattle.state.specs.State.{Object, free, body, table, directory, process, endpoint, State, places_of, positions_of, no_shape, shape_of, table_named, directory_named, count_of, boot_mark, is_free, first_of, obj_at, entries_in, place_at, positions_in, position_at, shape_at}
use Rattle.state.specs.Bytes.{tag_of}
use Rattle.state.specs.Read.{word_at, marked, listed, place_of, position_of, positions_for, shape_from, object_from, slot_from, read}
use Rattle.state.proofs.Parts.{word_drop, place_drop, position_drop}

-- ---- lists by index
pub listed_length : {A : Type 0} (n : ℕ) (f : ℕ → A) → length (listed n f) ≡ n
unfolding listed
listed_length zero f = refl
listed_length (suc n) f = ap suc (listed_length n (λ k. f (suc k)))

pub listed_at : {A : Type 0} (n : ℕ) (f : ℕ → A) (d : A) (k : ℕ) → k < n → get_or (listed n f) k d ≡ f k
unfolding listed
listed_at zero f d k h = absurd (not-suc-le-zero h)
listed_at (suc n) f d zero h = refl
listed_at (suc n) f d (suc k) h = listed_at n (λ i. f (suc i)) d k (le_of_suc-le-suc h)

pub listed_past : {A : Type 0} (n : ℕ) (f : ℕ → A) (d : A) (k : ℕ) → n ≤ k → get_or (listed n f) k d ≡ d
listed_past n f d k h =
    let l : length (listed n f) ≤ k = omega (arith, listed_length n f) in
    get_or-eq_default (listed n f) d l

-- ---- the note of slot k
abbrev pub tag_byte : List ℕ → ℕ → ℕ
tag_byte b k = get_or b (memory_length + 4 * k) 0

abbrev pub argument_byte : List ℕ → ℕ → ℕ
argument_byte b k = get_or b (memory_length + 1 + 4 * k) 0

-- ---- the object in a slot; past the last slot all is free
pub slots_length : (b : List ℕ) → length (read b).slots ≡ slot_count
unfolding read
slots_length b = listed_length slot_count (slot_from b)

pub object_read : (b : List ℕ) (t : Slot) → t.0 < slot_count → obj_at (read b) t ≡ slot_from b t.0
unfolding read
object_read b t h = listed_at slot_count (slot_from b) free t.0 h

pub object_past : (b : List ℕ) (t : Slot) → slot_count ≤ t.0 → obj_at (read b) t ≡ free
unfolding read
object_past b t h = listed_past slot_count (slot_from b) free t.0 h

-- ---- what holds of each of the six that a note can tell holds of the object
module _ (P : Object → Type 0) (t a : ℕ) (l : List ℕ) where
  pub object_cases :
      (t ≡ 1 → P (body (slot a)))
      → (t ≡ 2 → P (table (listed a (λ i. place_of l (entry_size * i)))))
      → (t ≡ 3 → P (directory (shape_from a l) (listed (positions_for a) (λ i. position_of l (header_size + 8 * i)))))
      → (t ≡ 4 → P (process (slot (get_or l 0 0)) (slot (get_or l 4 0))))
      → (t ≡ 5 → P (endpoint (count (word_at l 0)) (marked (word_at l 4))))
      → ((t ≡ 1 → ⊥) → (t ≡ 2 → ⊥) → (t ≡ 3 → ⊥) → (t ≡ 4 → ⊥) → (t ≡ 5 → ⊥) → P free)
      → P (object_from t a l)
  unfolding object_from
  object_cases f1 f2 f3 f4 f5 f0 = go (eqb t 1) (eqb t 2) (eqb t 3) (eqb t 4) (eqb t 5) refl refl refl refl refl
    where
      go : (z1 z2 z3 z4 z5 : Bool) → eqb t 1 ≡ z1 → eqb t 2 ≡ z2 → eqb t 3 ≡ z3 → eqb t 4 ≡ z4 → eqb t 5 ≡ z5 → P (object_from t a l)
      go true z2 z3 z4 z5 e1 e2 e3 e4 e5 = rw e1 (f1 (eqb-true _ _ e1))
      go false true z3 z4 z5 e1 e2 e3 e4 e5 = rw (e1, e2) (f2 (eqb-true _ _ e2))
      go false false true z4 z5 e1 e2 e3 e4 e5 = rw (e1, e2, e3) (f3 (eqb-true _ _ e3))
      go false false false true z5 e1 e2 e3 e4 e5 = rw (e1, e2, e3, e4) (f4 (eqb-true _ _ e4))
      go false false false false true e1 e2 e3 e4 e5 = rw (e1, e2, e3, e4, e5) (f5 (eqb-true _ _ e5))
      go false false false false false e1 e2 e3 e4 e5 =
          rw (e1, e2, e3, e4, e5) (f0 (eqb-false _ _ e1) (eqb-false _ _ e2) (eqb-false _ _ e3) (eqb-false _ _ e4) (eqb-false _ _ e5))

-- the shape that the header of the directory in slot k tells
abbrev pub shape_there : List ℕ → ℕ → Geometry
shape_there b k = record {
  size = word_at b (slot_size * k);
  number = argument_byte b k;
  top = marked (word_at b (slot_size * k + 4));
  start = word_at b (slot_size * k + 8);
}

-- ---- what a slot's note tells of the object that stands there
module _ (b : List ℕ) (t : Slot) (ht : t.0 < slot_count) where
  -- the object of a tag
  pub object_known : (n : ℕ) → tag_byte b t.0 ≡ n
      → obj_at (read b) t ≡ object_from n (argument_byte b t.0) (drop (slot_size * t.0) b)
  unfolding slot_from
  object_known n e = object_read b t ht ∙ rw e

  -- the six cases, each with its tag
  slot_cases : (P : Object → Type 0)
      → (tag_byte b t.0 ≡ 1 → P (body (slot (argument_byte b t.0))))
      → (tag_byte b t.0 ≡ 2 → (ps : List Place) → P (table ps))
      → (tag_byte b t.0 ≡ 3 → (g : Geometry) (es : List Position) → P (directory g es))
      → (tag_byte b t.0 ≡ 4 → (x y : Slot) → P (process x y))
      → (tag_byte b t.0 ≡ 5 → (n : Count) (z : Bool) → P (endpoint n z))
      → ((tag_byte b t.0 ≡ 1 → ⊥) → (tag_byte b t.0 ≡ 2 → ⊥) → (tag_byte b t.0 ≡ 3 → ⊥) → (tag_byte b t.0 ≡ 4 → ⊥)
      → (tag_byte b t.0 ≡ 5 → ⊥) → P free)
      → P (obj_at (read b) t)
  unfolding slot_from
  slot_cases P f1 f2 f3 f4 f5 f0 =
      rw (object_read b t ht)
      (object_cases P _ _ _ f1 (λ e. f2 e _) (λ e. f3 e _ _) (λ e. f4 e _ _) (λ e. f5 e _ _) f0)

  -- ---- the tag
  pub tag_known : tag_byte b t.0 ≤ 5 → tag_of (obj_at (read b) t) ≡ tag_byte b t.0
  tag_known h =
      slot_cases (λ o. tag_of o ≡ tag_byte b t.0) (λ e. sym e) (λ e ps. sym e) (λ e g es. sym e) (λ e x y. sym e) (λ e n z. sym e)
      (λ d1 d2 d3 d4 d5. omega arith)

  pub tag_none : 5 < tag_byte b t.0 → tag_of (obj_at (read b) t) ≡ 0
  tag_none h =
      slot_cases (λ o. tag_of o ≡ 0) (λ e. omega arith) (λ e ps. omega arith) (λ e g es. omega arith) (λ e x y. omega arith)
      (λ e n z. omega arith) (λ d1 d2 d3 d4 d5. refl)

  -- ---- the first slot of what stands there
  pub first_known : tag_byte b t.0 ≡ 1 → (s : ℕ) → first_of s (obj_at (read b) t) ≡ slot (argument_byte b t.0)
  unfolding object_from
  first_known e s = ap (first_of s) (object_known 1 e)

  pub first_none : (tag_byte b t.0 ≡ 1 → ⊥) → (s : ℕ) → first_of s (obj_at (read b) t) ≡ slot s
  first_none d s =
      slot_cases (λ o. first_of s o ≡ slot s) (λ e. absurd (d e)) (λ e ps. refl) (λ e g es. refl) (λ e x y. refl) (λ e n z. refl)
      (λ d1 d2 d3 d4 d5. refl)

  -- ---- a table's places
  pub places_known : tag_byte b t.0 ≡ 2
      → places_of (obj_at (read b) t) ≡ listed (argument_byte b t.0) (λ i. place_of (drop (slot_size * t.0) b) (entry_size * i))
  unfolding object_from
  places_known e = ap places_of (object_known 2 e)

  pub places_none : (tag_byte b t.0 ≡ 2 → ⊥) → places_of (obj_at (read b) t) ≡ []
  places_none d =
      slot_cases (λ o. places_of o ≡ []) (λ e. refl) (λ e ps. absurd (d e)) (λ e g es. refl) (λ e x y. refl) (λ e n z. refl)
      (λ d1 d2 d3 d4 d5. refl)

  pub entries_known : tag_byte b t.0 ≡ 2 → entries_in (read b) t ≡ argument_byte b t.0
  entries_known e = ap length (places_known e) ∙ listed_length (argument_byte b t.0) _

  pub entries_none : (tag_byte b t.0 ≡ 2 → ⊥) → entries_in (read b) t ≡ 0
  entries_none d = ap length (places_none d)

  -- ---- a directory's shape and positions
  pub positions_known : tag_byte b t.0 ≡ 3
      → positions_of (obj_at (read b) t)
      ≡ listed (positions_for (argument_byte b t.0)) (λ i. position_of (drop (slot_size * t.0) b) (header_size + 8 * i))
  unfolding object_from
  positions_known e = ap positions_of (object_known 3 e)

  pub positions_none : (tag_byte b t.0 ≡ 3 → ⊥) → positions_of (obj_at (read b) t) ≡ []
  positions_none d =
      slot_cases (λ o. positions_of o ≡ []) (λ e. refl) (λ e ps. refl) (λ e g es. absurd (d e)) (λ e x y. refl) (λ e n z. refl)
      (λ d1 d2 d3 d4 d5. refl)

  pub width_known : tag_byte b t.0 ≡ 3 → positions_in (read b) t ≡ positions_for (argument_byte b t.0)
  width_known e = ap length (positions_known e) ∙ listed_length (positions_for (argument_byte b t.0)) _

  pub width_none : (tag_byte b t.0 ≡ 3 → ⊥) → positions_in (read b) t ≡ 0
  width_none d = ap length (positions_none d)

  pub shape_known : tag_byte b t.0 ≡ 3 → shape_at (read b) t ≡ shape_there b t.0
  unfolding object_from
  shape_known e = ap shape_of (object_known 3 e) ∙ simp (word_drop, add-zero)

  pub shape_none : (tag_byte b t.0 ≡ 3 → ⊥) → shape_at (read b) t ≡ no_shape
  shape_none d =
      slot_cases (λ o. shape_of o ≡ no_shape) (λ e. refl) (λ e ps. refl) (λ e g es. absurd (d e)) (λ e x y. refl) (λ e n z. refl)
      (λ d1 d2 d3 d4 d5. refl)

  -- ---- what a process names
  pub table_known : tag_byte b t.0 ≡ 4 → table_named (obj_at (read b) t) ≡ slot (get_or b (slot_size * t.0) 0)
  unfolding object_from
  table_known e = ap table_named (object_known 4 e) ∙ simp (get_or-drop, add-zero)

  pub table_none : (tag_byte b t.0 ≡ 4 → ⊥) → table_named (obj_at (read b) t) ≡ slot 0
  table_none d =
      slot_cases (λ o. table_named o ≡ slot 0) (λ e. refl) (λ e ps. refl) (λ e g es. refl) (λ e x y. absurd (d e)) (λ e n z. refl)
      (λ d1 d2 d3 d4 d5. refl)

  pub directory_known : tag_byte b t.0 ≡ 4 → directory_named (obj_at (read b) t) ≡ slot (get_or b (slot_size * t.0 + 4) 0)
  unfolding object_from
  directory_known e = ap directory_named (object_known 4 e) ∙ simp get_or-drop

  pub directory_none : (tag_byte b t.0 ≡ 4 → ⊥) → directory_named (obj_at (read b) t) ≡ slot 0
  directory_none d =
      slot_cases (λ o. directory_named o ≡ slot 0) (λ e. refl) (λ e ps. refl) (λ e g es. refl) (λ e x y. absurd (d e)) (λ e n z. refl)
      (λ d1 d2 d3 d4 d5. refl)

  -- ---- an endpoint's count and mark
  pub count_known : tag_byte b t.0 ≡ 5 → count_of (obj_at (read b) t) ≡ word_at b (slot_size * t.0)
  unfolding object_from
  count_known e = ap count_of (object_known 5 e) ∙ simp (word_drop, add-zero)

  pub count_none : (tag_byte b t.0 ≡ 5 → ⊥) → count_of (obj_at (read b) t) ≡ 0
  count_none d =
      slot_cases (λ o. count_of o ≡ 0) (λ e. refl) (λ e ps. refl) (λ e g es. refl) (λ e x y. refl) (λ e n z. absurd (d e))
      (λ d1 d2 d3 d4 d5. refl)

  pub mark_known : tag_byte b t.0 ≡ 5 → boot_mark (obj_at (read b) t) ≡ marked (word_at b (slot_size * t.0 + 4))
  unfolding object_from
  mark_known e = ap boot_mark (object_known 5 e) ∙ simp word_drop

  pub mark_none : (tag_byte b t.0 ≡ 5 → ⊥) → boot_mark (obj_at (read b) t) ≡ false
  mark_none d =
      slot_cases (λ o. boot_mark o ≡ false) (λ e. refl) (λ e ps. refl) (λ e g es. refl) (λ e x y. refl) (λ e n z. absurd (d e))
      (λ d1 d2 d3 d4 d5. refl)

-- a mark is any word but 0
pub marked_some : (w : ℕ) → (w ≡ 0 → ⊥) → marked w ≡ true
marked_some zero d = absurd (d refl)
marked_some (suc w) d = refl

-- ---- a slot is free where its tag is 0
pub free_tag : (o : Object) → is_free o ≡ eqb (tag_of o) 0
free_tag free = refl
free_tag (body h) = refl
free_tag (table ps) = refl
free_tag (directory g es) = refl
free_tag (process t d) = refl
free_tag (endpoint c b) = refl

-- ---- a place of a table; past its entries it is blank
pub place_past : (st : State) (t : Slot) (e : ℕ) → entries_in st t ≤ e → place_at st t e ≡ None
place_past st t e h = get_or-eq_default (places_of (obj_at st t)) None h

pub place_known : (b : List ℕ) (t : Slot) (e : ℕ) → t.0 < slot_count → e < entries_in (read b) t
    → place_at (read b) t e ≡ place_of b (slot_size * t.0 + entry_size * e)
place_known b t e ht he = go (eqb (tag_byte b t.0) 2) refl
  where
    go : (z : Bool) → eqb (tag_byte b t.0) 2 ≡ z → place_at (read b) t e ≡ place_of b (slot_size * t.0 + entry_size * e)
    go true q =
        let two : tag_byte b t.0 ≡ 2 = eqb-true _ _ q in
        ap (λ (ps : List Place). get_or ps e None) (places_known b t ht two)
        ∙ listed_at (argument_byte b t.0) _ None e (omega (arith, entries_known b t ht two))
        ∙ place_drop b (slot_size * t.0) (entry_size * e)
    go false q = absurd (not-suc-le-zero (rw (entries_none b t ht (eqb-false _ _ q)) at he))

-- ---- a position of a directory; past the last it is empty
pub position_past : (st : State) (d : Slot) (i : ℕ) → positions_in st d ≤ i → position_at st d i ≡ Empty
position_past st d i h = get_or-eq_default (positions_of (obj_at st d)) Empty h

pub position_known : (b : List ℕ) (d : Slot) (i : ℕ) → d.0 < slot_count → i < positions_in (read b) d
    → position_at (read b) d i ≡ position_of b (slot_size * d.0 + (header_size + 8 * i))
position_known b d i hd hi = go (eqb (tag_byte b d.0) 3) refl
  where
    go : (z : Bool) → eqb (tag_byte b d.0) 3 ≡ z → position_at (read b) d i ≡ position_of b (slot_size * d.0 + (header_size + 8 * i))
    go true q =
        let three : tag_byte b d.0 ≡ 3 = eqb-true _ _ q in
        ap (λ (es : List Position). get_or es i Empty) (positions_known b d hd three)
        ∙ listed_at (positions_for (argument_byte b d.0)) _ Empty i (omega (arith, width_known b d hd three))
        ∙ position_drop b (slot_size * d.0) (header_size + 8 * i)
    go false q = absurd (not-suc-le-zero (rw (width_none b d hd (eqb-false _ _ q)) at hi))

-- ---- the clock
pub clock_read : (b : List ℕ) → (read b).clock ≡ word_at b clock_offset
unfolding read
clock_read b = refl
