-- What is read in the part that an object's slots are is what the whole buffer has there; and how long that part is.
use mathlib.Core.Bool.{true}
use mathlib.Core.List.{List, ◌∷◌}
use mathlib.Core.Path.{ap, refl, sym, ◌∙◌, ◌≡◌}
use Prim.Native.Nat.{◌*◌, ◌+◌, ◌<◌, suc, zero, ℕ, ◌≤◌}
use native.Mathlib.Nat.{le_of_eq}
use native.Mathlib.Omega.{arith}
use lib.ListN.{drop, length, length-drop, take}
use lib.Seq.{get_or-take, length-take-le}
use borrow.Author.Tests.{ne_eqb}
use Rattle.audit_entries.proofs.Vacant.{vacant_tag}
use Rattle.audit_entries.specs.Vacant.{Vacant}
use Rattle.audit_layout.proofs.Slots.{size_directory, size_other, size_table}
use Rattle.rules.specs.WellFormed.{apart}
use Rattle.state.proofs.Look.{argument_byte, listed_length, object_cases, object_known, object_read, slots_length, tag_byte}
use Rattle.state.proofs.Parts.{place_take, position_take, word_take}
use Rattle.state.proofs.Sizes.{memory_length_lem, object_room}
use Rattle.state.specs.Bytes.{memory_bytes, tag_of}
use Rattle.state.specs.Layout.{Laid}
use Rattle.state.specs.Read.{listed, object_from, place_of, position_of, positions_for, read, shape_from, slot_from}
use Rattle.state.specs.State.{Object, directory, free, obj_at, positions_in, size_of, table}
use Rattle.words.proofs.Tests.{and_right}
use Rattle.words.specs.Fields.{slot}
use Rattle.words.specs.Sizes.{entry_size, header_size, position_size, slot_count, slot_size, slots_for, state_length}
use Rattle.audit_bytes.specs.Clean.{zero_words}
use Rattle.audit_bytes.specs.Names.{Slot}
use Rattle.audit_bytes.specs.Stands.{object_stands, starts}
use Rattle.audit_bytes.proofs.Runs.{zeros_stand}
use Rattle.audit_bytes.proofs.Starts.{starts_nil, starts_take}
use Rattle.audit_bytes.proofs.Words.{Bytes}

listed_agree : {A : Type 0} (n : ℕ) (f g : ℕ → A) → ((i : ℕ) → i < n → f i ≡ g i) → listed n f ≡ listed n g
unfolding listed
listed_agree zero f g h = refl
listed_agree (suc n) f g h = λ j. h 0 (omega arith) j ∷ listed_agree n (λ k. f (suc k)) (λ k. g (suc k)) (λ i l. h (suc i) (omega arith)) j

module _ (t a : ℕ) (l : List ℕ) where
  -- by cases on what the note tells
  object_part : object_from t a (take (slot_size * size_of (object_from t a l)) l) ≡ object_from t a l
  unfolding object_from
  object_part =
      object_cases (λ o. object_from t a (take (slot_size * size_of o) l) ≡ o) t a l
      (λ e. rw e)
      (λ e. rw e (tables (slot_size * size_of (table (listed a (λ j. place_of l (entry_size * j))))) (omega (arith, listed_length a (λ j. place_of l (entry_size * j))))))
      (λ e. rw e (directories (slot_size * size_of (directory (shape_from a l) (listed (positions_for a) (λ j. position_of l (header_size + 8 * j))))) (omega (arith, listed_length (positions_for a) (λ j. position_of l (header_size + 8 * j))))))
      (λ e. rw (e, get_or-take 64 l 0 0 (omega arith), get_or-take 64 l 4 0 (omega arith)))
      (λ e. rw (e, word_take l 64 0 (omega arith), word_take l 64 4 (omega arith)))
      (λ d1 d2 d3 d4 d5. rw (ne_eqb _ _ d1, ne_eqb _ _ d2, ne_eqb _ _ d3, ne_eqb _ _ d4, ne_eqb _ _ d5))
    where
      tables : (m : ℕ) → entry_size * a ≤ m → table (listed a (λ i. place_of (take m l) (entry_size * i))) ≡ table (listed a (λ i. place_of l (entry_size * i)))
      tables m h = ap table (listed_agree a _ _ (λ i k. place_take l m (entry_size * i) (omega arith)))

      directories : (m : ℕ) → header_size + 8 * positions_for a ≤ m
          → directory (shape_from a (take m l)) (listed (positions_for a) (λ i. position_of (take m l) (header_size + 8 * i)))
          ≡ directory (shape_from a l) (listed (positions_for a) (λ i. position_of l (header_size + 8 * i)))
      directories m h =
          let e0 = word_take l m 0 (omega arith) in
          let e4 = word_take l m 4 (omega arith) in
          let e8 = word_take l m 8 (omega arith) in
          rw (e0, e4, e8) (ap (directory (shape_from a l)) (listed_agree (positions_for a) _ _ (λ i k. position_take l m (header_size + 8 * i) (omega arith))))

  part_stands : (p : List ℕ) → p ≡ take (slot_size * size_of (object_from t a l)) l
      → starts (memory_bytes (object_from t a p)) p ≡ starts (memory_bytes (object_from t a l)) l
  part_stands p e =
      let o : Object = object_from t a l in
      ap (λ (x : List ℕ). starts (memory_bytes (object_from t a x)) x) e
      ∙ ap (λ (x : Object). starts (memory_bytes x) (take (slot_size * size_of o) l)) object_part
      ∙ starts_take (memory_bytes o) l (slot_size * size_of o) (le_of_eq (memory_length_lem o))

  object_none : (t ≡ 1 → ⊥) → (t ≡ 2 → ⊥) → (t ≡ 3 → ⊥) → (t ≡ 4 → ⊥) → (t ≡ 5 → ⊥) → object_from t a l ≡ free
  unfolding object_from
  object_none d1 d2 d3 d4 d5 = rw (ne_eqb _ _ d1, ne_eqb _ _ d2, ne_eqb _ _ d3, ne_eqb _ _ d4, ne_eqb _ _ d5)

pub laid_open : (b : List ℕ) → apart (read b) ≡ true → Laid (read b)
unfolding apart
laid_open b h = record { room = slots_length b; laid = and_right _ _ h }

-- ---- p is the part of the slots that the object in slot k of a laid-out buffer takes
pub record Cut (b : List ℕ) (k : Slot) (p : List ℕ) : Type 0 where
  pub inside : k.0 < slot_count
  pub long : length b ≡ state_length
  pub laid : apart (read b) ≡ true
  pub part : p ≡ take (slot_size * size_of (obj_at (read b) k)) (drop (slot_size * k.0) b)

module _ (b : List ℕ) (k : Slot) (p : List ℕ) (w : Cut b k p) where
  -- the object stands in the buffer where it stands in its part
  pub cut_stands : (t : ℕ) → tag_byte b k.0 ≡ t → starts (memory_bytes (object_from t (argument_byte b k.0) p)) p ≡ object_stands b k
  unfolding slot_from
  cut_stands t e =
      let s = object_read b k w.inside in
      ap (λ (i : ℕ). starts (memory_bytes (object_from i (argument_byte b k.0) p)) p) (sym e)
      ∙ part_stands (tag_byte b k.0) (argument_byte b k.0) (drop (slot_size * k.0) b) p
      (w.part ∙ ap (λ (o : Object). take (slot_size * size_of o) (drop (slot_size * k.0) b)) s)
      ∙ ap (λ (o : Object). starts (memory_bytes o) (drop (slot_size * k.0) b)) (sym s)

  not_later : (tag_byte b k.0 ≡ 1 → ⊥) → tag_of (obj_at (read b) k) ≡ 1 → ⊥
  unfolding slot_from
  not_later d =
      rw (object_read b k w.inside)
      (object_cases (λ o. tag_of o ≡ 1 → ⊥) _ _ _ (λ e z. d e) (λ e z. omega arith) (λ e z. omega arith) (λ e z. omega arith) (λ e z. omega arith) (λ d1 d2 d3 d4 d5 z. omega arith))

  -- the part is as long as the object's slots
  cut_length : (tag_byte b k.0 ≡ 1 → ⊥) → length p ≡ slot_size * size_of (obj_at (read b) k)
  cut_length d =
      let room = object_room (read b) (laid_open b w.laid) k.0 w.inside (not_later d) in
      ap length w.part
      ∙ length-take-le (slot_size * size_of (obj_at (read b) k)) (drop (slot_size * k.0) b) (omega (arith, length-drop (slot_size * k.0) b, w.long))

  pub cut_table : tag_byte b k.0 ≡ 2 → length p ≡ slot_size * slots_for (entry_size * argument_byte b k.0)
  cut_table e = cut_length (λ z. let q = sym e ∙ z in omega arith) ∙ ap (λ (i : ℕ). slot_size * i) (size_table b k w.inside e)

  pub cut_directory : tag_byte b k.0 ≡ 3 → length p ≡ slot_size * slots_for (header_size + position_size * positions_in (read b) k)
  cut_directory e = cut_length (λ z. let q = sym e ∙ z in omega arith) ∙ ap (λ (i : ℕ). slot_size * i) (size_directory b k w.inside e)

  -- of a process and of an endpoint
  pub cut_small : (t : ℕ) → tag_byte b k.0 ≡ t → 3 < t → length p ≡ slot_size
  cut_small t e h =
      let d1 : tag_byte b k.0 ≡ 1 → ⊥ = λ z. omega arith in
      cut_length d1 ∙ ap (λ (i : ℕ). slot_size * i) (size_other b k w.inside d1 (λ z. omega arith) (λ z. omega arith))

-- ---- a free slot is looked at in the whole buffer
pub free_stands : (b : List ℕ) → Bytes b → length b ≡ state_length → (k : Slot) → k.0 < slot_count
    → (tag_byte b k.0 ≡ 1 → ⊥) → (tag_byte b k.0 ≡ 2 → ⊥) → (tag_byte b k.0 ≡ 3 → ⊥) → (tag_byte b k.0 ≡ 4 → ⊥) → (tag_byte b k.0 ≡ 5 → ⊥)
    → zero_words b (slot_size * k.0) 16 ≡ object_stands b k
unfolding slot_from
free_stands b u long k in_it d1 d2 d3 d4 d5 =
    sym
    (ap (λ (o : Object). starts (memory_bytes o) (drop (slot_size * k.0) b)) (object_read b k in_it ∙ object_none (tag_byte b k.0) (argument_byte b k.0) (drop (slot_size * k.0) b) d1 d2 d3 d4 d5)
    ∙ zeros_stand b u (slot_size * k.0) 16 (omega arith))

-- and behind the slots that are used no note has to be read for it
pub vacant_stands : (b : List ℕ) → Bytes b → length b ≡ state_length → (n : ℕ) → Vacant b n → (k : ℕ) → n ≤ k → k < slot_count
    → zero_words b (slot_size * k) 16 ≡ object_stands b (slot k)
vacant_stands b u long n v k h l =
    let t = vacant_tag b n v k h l in
    free_stands b u long (slot k) l (λ z. omega arith) (λ z. omega arith) (λ z. omega arith) (λ z. omega arith) (λ z. omega arith)

-- an object that goes on has no bytes of its own here
pub later_stands : (b : List ℕ) (k : Slot) → k.0 < slot_count → tag_byte b k.0 ≡ 1 → object_stands b k ≡ true
unfolding object_from
later_stands b k in_it e = rw (object_known b k in_it 1 e) (starts_nil (drop (slot_size * k.0) b))
