-- What replacing one object, or the clock, does to the bytes: the laws that a writer of the lent buffer cites. Each is one part replaced.
use mathlib.Core.Path.{◌≡◌, refl, sym, ◌∙◌, ap, ap₂}
use mathlib.Core.List.{List, [], ◌∷◌, ◌++◌}
use Prim.Native.Nat.{ℕ, ◌+◌, ◌*◌, ◌-◌, ◌<◌, ◌≤◌}
use native.Mathlib.Decide.{dec_lt}
use native.Mathlib.Nat.{not-suc-le-zero}
use native.Mathlib.Omega.{arith}
use lib.ListN.{length, get_or, set, replicate, length-set, get_or-eq_default}
use Rattle.words.specs.Sizes.{slots_for}
use Rattle.words.specs.Fields.{count}
use Rattle.state.specs.Names.{Slot, Count, Spot, Geometry, Place, Position}
use Rattle.state.specs.State.{Object, free, body, table, directory, process, endpoint, State, size_of, places_of, positions_of, shape_of, table_named, directory_named, count_of, boot_mark, obj_at, entries_in, positions_in, splice, put, put_place, put_position, with_clock}
use Rattle.state.specs.Layout.{Laid}
use Rattle.state.specs.Bytes.{each, le32, words_bytes, mark, place_bytes, position_bytes, own_bytes, memory_bytes, tag_of, note_of, note_bytes, bytes}
use Rattle.state.proofs.Pieces.{splice_left, splice_right, offset_fits, put_law, each_same, even_put, length_splice}
use Rattle.state.proofs.Sizes.{place_length, position_length, table_length, positions_length, memory_length_lem, memory_whole, notes_whole, object_offset, object_room}

-- ---- what stands in a slot, by what is known of it
pub is_table : (o : Object) (e : ℕ) → e < length (places_of o) → o ≡ table (places_of o)
is_table free e h = absurd (not-suc-le-zero h)
is_table (body f) e h = absurd (not-suc-le-zero h)
is_table (table ps) e h = refl
is_table (directory g es) e h = absurd (not-suc-le-zero h)
is_table (process t d) e h = absurd (not-suc-le-zero h)
is_table (endpoint c b) e h = absurd (not-suc-le-zero h)

pub is_directory : (o : Object) (i : ℕ) → i < length (positions_of o) → o ≡ directory (shape_of o) (positions_of o)
is_directory free i h = absurd (not-suc-le-zero h)
is_directory (body f) i h = absurd (not-suc-le-zero h)
is_directory (table ps) i h = absurd (not-suc-le-zero h)
is_directory (directory g es) i h = refl
is_directory (process t d) i h = absurd (not-suc-le-zero h)
is_directory (endpoint c b) i h = absurd (not-suc-le-zero h)

pub is_process : (o : Object) → tag_of o ≡ 4 → o ≡ process (table_named o) (directory_named o)
is_process free h = absurd (omega arith)
is_process (body f) h = absurd (omega arith)
is_process (table ps) h = absurd (omega arith)
is_process (directory g es) h = absurd (omega arith)
is_process (process t d) h = refl
is_process (endpoint c b) h = absurd (omega arith)

pub is_endpoint : (o : Object) → tag_of o ≡ 5 → o ≡ endpoint (count (count_of o)) (boot_mark o)
is_endpoint free h = absurd (omega arith)
is_endpoint (body f) h = absurd (omega arith)
is_endpoint (table ps) h = absurd (omega arith)
is_endpoint (directory g es) h = absurd (omega arith)
is_endpoint (process t d) h = absurd (omega arith)
is_endpoint (endpoint c b) h = refl

-- what is not free is in memory
pub slot_in : (st : State) (s : Slot) → (obj_at st s ≡ free → ⊥) → s.0 < length st.slots
slot_in st s d = elim (dec_lt s.0 (length st.slots)) [
  | yes l ↦ l
  | no l ↦ absurd (d (get_or-eq_default st.slots free {n = s.0} (omega arith)))
]

-- ---- a part of an object's own bytes replaced is that part of its memory
own_put : (o x : Object) (v : List ℕ) (n : ℕ) → n + length v ≤ length (own_bytes x) → size_of o ≡ size_of x → own_bytes o ≡ splice n v (own_bytes x)
    → memory_bytes o ≡ splice n v (memory_bytes x)
own_put o x v n h es eo =
    let long : length (own_bytes o) ≡ length (own_bytes x) = ap length eo ∙ length_splice (own_bytes x) v n h in
    ap₂ (λ (l : List ℕ) (k : ℕ). l ++ replicate k 0) eo (ap₂ (λ (a b : ℕ). 64 * a - b) es long)
    ∙ sym (splice_left (own_bytes x) (replicate (64 * size_of x - length (own_bytes x)) 0) v n h)

-- an entry of a table
places_put : (ps : List Place) (e : ℕ) (p : Place) → e < length ps → memory_bytes (table (set ps e p)) ≡ splice (32 * e) (place_bytes p) (memory_bytes (table ps))
places_put ps e p h =
    own_put (table (set ps e p)) (table ps) (place_bytes p) (32 * e) (omega (arith, place_length p, table_length ps))
    (ap (λ (n : ℕ). slots_for (32 * n)) (length-set ps e p)) (even_put place_bytes 32 place_length (get_or ps e p) p ps e h)

-- a position of a directory, behind the header
positions_put : (g : Geometry) (es : List Position) (i : ℕ) (x : Position) → i < length es
    → memory_bytes (directory g (set es i x)) ≡ splice (32 + 8 * i) (position_bytes x) (memory_bytes (directory g es))
positions_put g es i x h =
    let header : List ℕ = words_bytes (g.size ∷ mark g.top ∷ g.start ∷ 0 ∷ 0 ∷ 0 ∷ 0 ∷ 0 ∷ []) in
    own_put (directory g (set es i x)) (directory g es) (position_bytes x) (32 + 8 * i) (omega (arith, position_length x, positions_length es))
    (ap (λ (n : ℕ). slots_for (32 + 8 * n)) (length-set es i x))
    (ap (λ (l : List ℕ). header ++ l) (even_put position_bytes 8 position_length (get_or es i x) x es i h)
    ∙ sym (splice_right header (each position_bytes es) (position_bytes x) (8 * i)))

-- ---- a laid-out state
module _ (st : State) (w : Laid st) where
  -- an object stands in one of the 256 slots
  pub object_inside : (k : Slot) → (tag_of (obj_at st k) ≡ 0 → ⊥) → k.0 < 256
  object_inside k h = omega (arith, w.room, slot_in st k (λ e. h (ap tag_of e)))

  -- an object replaced by one with the same note, whose memory is the old one's with a part replaced
  pub bytes_put : (k : Slot) (o : Object) (v : List ℕ) (n : ℕ) → k.0 < 256 → (tag_of (obj_at st k) ≡ 1 → ⊥) → n + length v ≤ 64 * size_of (obj_at st k)
      → memory_bytes o ≡ splice n v (memory_bytes (obj_at st k)) → note_bytes o ≡ note_bytes (obj_at st k) → bytes (put st k o) ≡ splice (64 * k.0 + n) v (bytes st)
  unfolding bytes
  bytes_put k o v n hk hb hn em en =
      let memory : List ℕ = each memory_bytes st.slots in
      let rest : List ℕ = each note_bytes st.slots ++ (le32 st.clock ++ replicate 60 0) in
      let hl : k.0 < length st.slots = omega (arith, w.room) in
      let hv : n + length v ≤ length (memory_bytes (obj_at st k)) = omega (arith, memory_length_lem (obj_at st k)) in
      let at = object_offset st w k.0 hk hb in
      let new : each memory_bytes (set st.slots k.0 o) ≡ splice (64 * k.0 + n) v memory =
      put_law memory_bytes free o v n st.slots k.0 hl hv em ∙ ap (λ (i : ℕ). splice (i + n) v memory) at in
      let room : 64 * k.0 + n + length v ≤ length memory = omega (arith, at, offset_fits memory_bytes free st.slots k.0 hl) in
      ap₂ (λ (m b : List ℕ). m ++ (b ++ (le32 st.clock ++ replicate 60 0))) new (each_same note_bytes free o st.slots k.0 en)
      ∙ sym (splice_left memory rest v (64 * k.0 + n) room)

  -- ---- an entry of a table
  pub place_room : (p : Spot) → p.entry < entries_in st p.table → 64 * p.table.0 + 32 * p.entry + 32 ≤ 16384
  place_room p h =
      let is = is_table (obj_at st p.table) p.entry h in
      let tag : tag_of (obj_at st p.table) ≡ 2 = ap tag_of is in
      omega (arith, ap size_of is, object_room st w p.table.0 (object_inside p.table (λ z. omega arith)) (λ z. omega arith))

  pub bytes_place : (p : Spot) (x : Place) → p.entry < entries_in st p.table
      → bytes (put_place st p x) ≡ splice (64 * p.table.0 + 32 * p.entry) (place_bytes x) (bytes st)
  bytes_place p x h =
      let ps : List Place = places_of (obj_at st p.table) in
      let is : obj_at st p.table ≡ table ps = is_table (obj_at st p.table) p.entry h in
      let tag : tag_of (obj_at st p.table) ≡ 2 = ap tag_of is in
      bytes_put p.table (table (set ps p.entry x)) (place_bytes x) (32 * p.entry) (object_inside p.table (λ z. omega arith)) (λ z. omega arith)
      (omega (arith, place_length x, ap size_of is))
      (places_put ps p.entry x h ∙ ap (λ (o : Object). splice (32 * p.entry) (place_bytes x) (memory_bytes o)) (sym is))
      (ap (note_of 2) (length-set ps p.entry x) ∙ ap note_bytes (sym is))

  -- ---- a position of a directory
  pub position_room : (d : Slot) (i : ℕ) → i < positions_in st d → 64 * d.0 + 32 + 8 * i + 8 ≤ 16384
  position_room d i h =
      let is = is_directory (obj_at st d) i h in
      let tag : tag_of (obj_at st d) ≡ 3 = ap tag_of is in
      omega (arith, ap size_of is, object_room st w d.0 (object_inside d (λ z. omega arith)) (λ z. omega arith))

  pub bytes_position : (d : Slot) (i : ℕ) (x : Position) → i < positions_in st d
      → bytes (put_position st d i x) ≡ splice (64 * d.0 + 32 + 8 * i) (position_bytes x) (bytes st)
  bytes_position d i x h =
      let g : Geometry = shape_of (obj_at st d) in
      let es : List Position = positions_of (obj_at st d) in
      let is : obj_at st d ≡ directory g es = is_directory (obj_at st d) i h in
      let tag : tag_of (obj_at st d) ≡ 3 = ap tag_of is in
      let at : 64 * d.0 + (32 + 8 * i) ≡ 64 * d.0 + 32 + 8 * i = omega arith in
      bytes_put d (directory g (set es i x)) (position_bytes x) (32 + 8 * i) (object_inside d (λ z. omega arith)) (λ z. omega arith)
      (omega (arith, position_length x, ap size_of is))
      (positions_put g es i x h ∙ ap (λ (o : Object). splice (32 + 8 * i) (position_bytes x) (memory_bytes o)) (sym is))
      (ap note_bytes (sym is))
      ∙ ap (λ (n : ℕ). splice n (position_bytes x) (bytes st)) at

  -- ---- a word of an object of one slot
  bytes_word : (k : Slot) (o x : Object) (v n at : ℕ) → 64 * k.0 + n ≡ at → obj_at st k ≡ x → 4 ≤ tag_of x → n + 4 ≤ 64 * size_of x
      → memory_bytes o ≡ splice n (le32 v) (memory_bytes x) → note_bytes o ≡ note_bytes x → bytes (put st k o) ≡ splice at (le32 v) (bytes st)
  bytes_word k o x v n at ea is tag room em en =
      let same : tag_of (obj_at st k) ≡ tag_of x = ap tag_of is in
      bytes_put k o (le32 v) n (object_inside k (λ z. omega arith)) (λ z. omega arith) (omega (arith, ap size_of is))
      (em ∙ ap (λ (y : Object). splice n (le32 v) (memory_bytes y)) (sym is)) (en ∙ ap note_bytes (sym is))
      ∙ ap (λ (i : ℕ). splice i (le32 v) (bytes st)) ea

  -- "change table; directory"
  pub bytes_table : (p t : Slot) → tag_of (obj_at st p) ≡ 4 → bytes (put st p (process t (directory_named (obj_at st p)))) ≡ splice (64 * p.0) (le32 t.0) (bytes st)
  unfolding splice
  bytes_table p t h =
      bytes_word p (process t (directory_named (obj_at st p))) (process (table_named (obj_at st p)) (directory_named (obj_at st p))) t.0 0 (64 * p.0) (omega arith)
      (is_process (obj_at st p) h) (omega arith) (omega arith) refl refl

  pub bytes_directory : (p d : Slot) → tag_of (obj_at st p) ≡ 4 → bytes (put st p (process (table_named (obj_at st p)) d)) ≡ splice (64 * p.0 + 4) (le32 d.0) (bytes st)
  unfolding splice
  bytes_directory p d h =
      bytes_word p (process (table_named (obj_at st p)) d) (process (table_named (obj_at st p)) (directory_named (obj_at st p))) d.0 4 (64 * p.0 + 4) refl
      (is_process (obj_at st p) h) (omega arith) (omega arith) refl refl

  -- "send; receive"
  pub bytes_count : (e : Slot) (c : Count) → tag_of (obj_at st e) ≡ 5 → bytes (put st e (endpoint c (boot_mark (obj_at st e)))) ≡ splice (64 * e.0) (le32 c.0) (bytes st)
  unfolding splice
  bytes_count e c h =
      bytes_word e (endpoint c (boot_mark (obj_at st e))) (endpoint (count (count_of (obj_at st e))) (boot_mark (obj_at st e))) c.0 0 (64 * e.0) (omega arith)
      (is_endpoint (obj_at st e) h) (omega arith) (omega arith) refl refl

  -- the words of a process and of an endpoint lie in its slot
  pub slot_room : (k : Slot) → 4 ≤ tag_of (obj_at st k) → 64 * k.0 + 64 ≤ 16384
  slot_room k h = omega (arith, object_inside k (λ z. omega arith))

  -- "a tick adds 1"
  pub bytes_clock : (c : ℕ) → bytes (with_clock st c) ≡ splice 17408 (le32 c) (bytes st)
  unfolding bytes splice
  bytes_clock c =
      let memory : List ℕ = each memory_bytes st.slots in
      let notes : List ℕ = each note_bytes st.slots in
      let end : List ℕ = le32 st.clock ++ replicate 60 0 in
      let at : length memory + (length notes + 0) ≡ 17408 = omega (arith, memory_whole st w, notes_whole st w) in
      ap (λ (r : List ℕ). memory ++ r) (sym (splice_right notes end (le32 c) 0))
      ∙ sym (splice_right memory (notes ++ end) (le32 c) (length notes + 0))
      ∙ ap (λ (i : ℕ). splice i (le32 c) (memory ++ (notes ++ end))) at
