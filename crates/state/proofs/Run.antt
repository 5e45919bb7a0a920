-- What replacing a run of slots does to the bytes: "zeroed at deletion and filled at creation". One law for both.
use mathlib.Core.Path.{◌≡◌, refl, sym, ◌∙◌, ap, ap₂}
use mathlib.Core.Bool.{true, false≢true}
use mathlib.Core.List.{List, [], ◌∷◌, ◌++◌, append-nil}
use Prim.Native.Nat.{ℕ, zero, suc, ◌+◌, ◌*◌, ◌-◌, ◌<◌, ◌≤◌}
use native.Mathlib.Nat.{not-suc-le-zero, le_of_suc-le-suc, zero-add, add-zero}
use native.Mathlib.Omega.{arith}
use lib.ListN.{length, get_or, take, drop, replicate, length-append, length-drop, length-replicate, get_or-replicate, take-append-drop}
use lib.Seq.{ext_get_or, get_or-take, get_or-drop, length-take-le}
use Rattle.words.specs.Fields.{slot}
use Rattle.state.specs.Names.{Slot}
use Rattle.state.specs.State.{Object, free, body, State, size_of, obj_at, splice, with_slots, risen, raise, raze}
use Rattle.state.specs.Layout.{lay, Laid}
use Rattle.state.specs.Bytes.{each, le32, memory_bytes, tag_of, note_bytes, bytes}
use Rattle.state.proofs.Pieces.{splice_left, splice_right, offset, each_append, run_law, even_offset}
use Rattle.state.proofs.Sizes.{note_length, notes_length, memory_length_lem, memory_whole, notes_whole, object_offset, object_room, lay_zero, lay_suc, goes_body, goes_none}
use Rattle.state.proofs.Write.{object_inside}
use Rattle.state.proofs.Zeros.{each_zeros}

-- ---- the slots of an object, from the layout
lay_owns : (xs : List Object) (k c : ℕ) (h : Slot) → lay k c h xs ≡ true → (i : ℕ) → i < c → get_or xs i free ≡ body h
unfolding lay
lay_owns [] k zero h l i n = absurd (not-suc-le-zero n)
lay_owns [] k (suc c) h l i n = absurd (false≢true l)
lay_owns (o ∷ os) k zero h l i n = absurd (not-suc-le-zero n)
lay_owns (o ∷ os) k (suc c) h l zero n = goes_body h o (lay_suc k c h o os l).0
lay_owns (o ∷ os) k (suc c) h l (suc i) n = lay_owns os (suc k) c h (lay_suc k c h o os l).1 i (le_of_suc-le-suc n)

-- it goes on in the slots behind its first
lay_part : (xs : List Object) (k c : ℕ) (h : Slot) → lay k c h xs ≡ true → (i j : ℕ) → suc j < size_of (get_or xs i free) → get_or xs (i + suc j) free ≡ body (slot (k + i))
lay_part [] k c h l i j n = absurd (omega arith)
lay_part (o ∷ os) k zero h l zero j n =
    let s = lay_zero k h o os l in
    rw (zero-add (suc j), add-zero k) (lay_owns os (suc k) s.0 (slot k) s.2 j (omega (arith, s.1)))
lay_part (o ∷ os) k (suc c) h l zero j n = absurd (omega (arith, (goes_none h o (lay_suc k c h o os l).0).0))
lay_part (o ∷ os) k zero h l (suc i) j n =
    let s = lay_zero k h o os l in
    let e : suc i + suc j ≡ suc (i + suc j) = omega arith in
    let f : k + suc i ≡ suc k + i = omega arith in
    rw (e, f) (lay_part os (suc k) s.0 (slot k) s.2 i j n)
lay_part (o ∷ os) k (suc c) h l (suc i) j n =
    let e : suc i + suc j ≡ suc (i + suc j) = omega arith in
    let f : k + suc i ≡ suc k + i = omega arith in
    rw (e, f) (lay_part os (suc k) c h (lay_suc k c h o os l).1 i j n)

-- and has at least that one
lay_some : (xs : List Object) (k c : ℕ) (h : Slot) (i : ℕ) → lay k c h xs ≡ true → i < length xs → (tag_of (get_or xs i free) ≡ 1 → ⊥) → 1 ≤ size_of (get_or xs i free)
lay_some [] k c h i l hi hb = absurd (not-suc-le-zero hi)
lay_some (o ∷ os) k zero h zero l hi hb = omega (arith, (lay_zero k h o os l).1)
lay_some (o ∷ os) k (suc c) h zero l hi hb = absurd (hb (goes_none h o (lay_suc k c h o os l).0).1)
lay_some (o ∷ os) k zero h (suc i) l hi hb = let s = lay_zero k h o os l in lay_some os (suc k) s.0 (slot k) i s.2 (le_of_suc-le-suc hi) hb
lay_some (o ∷ os) k (suc c) h (suc i) l hi hb = lay_some os (suc k) c h i (lay_suc k c h o os l).1 (le_of_suc-le-suc hi) hb

-- ---- a run by its elements
run_is : (xs ys : List Object) (k : ℕ) → k + length ys ≤ length xs → ((i : ℕ) → i < length ys → get_or xs (k + i) free ≡ get_or ys i free) → take (length ys) (drop k xs) ≡ ys
run_is xs ys k h f =
    let long : length (take (length ys) (drop k xs)) ≡ length ys = length-take-le (length ys) (drop k xs) (omega (arith, length-drop k xs)) in
    ext_get_or free (take (length ys) (drop k xs)) ys long
    (λ i hi. let below : i < length ys = omega (arith, long) in get_or-take (length ys) (drop k xs) i free below ∙ get_or-drop k xs i free ∙ f i below)

run_fits : (xs : List Object) (k n : ℕ) → offset memory_bytes xs k + length (each memory_bytes (take n (drop k xs))) ≤ length (each memory_bytes xs)
run_fits xs k n =
    let whole : each memory_bytes xs ≡ each memory_bytes (take k xs) ++ (each memory_bytes (take n (drop k xs)) ++ each memory_bytes (drop n (drop k xs))) =
    ap (each memory_bytes) (sym (take-append-drop k xs)) ∙ each_append memory_bytes (take k xs) (drop k xs)
    ∙ ap (λ (r : List ℕ). each memory_bytes (take k xs) ++ r)
    (ap (each memory_bytes) (sym (take-append-drop n (drop k xs))) ∙ each_append memory_bytes (take n (drop k xs)) (drop n (drop k xs))) in
    omega (arith, simp length-append at (ap length whole))

-- ---- the bytes of the two runs that are written
-- an object with its later slots: those have no bytes of their own
pub risen_memory : (s : Slot) (o : Object) → each memory_bytes (risen s o) ≡ memory_bytes o
unfolding each
risen_memory s o = ap (λ (r : List ℕ). memory_bytes o ++ r) (none (size_of o - 1)) ∙ append-nil (memory_bytes o)
  where
    none : (n : ℕ) → each memory_bytes (replicate n (body s)) ≡ []
    none zero = refl
    none (suc n) = none n

pub risen_length : (s : Slot) (o : Object) → 1 ≤ size_of o → length (risen s o) ≡ size_of o
risen_length s o h = omega (arith, length-replicate (size_of o - 1) (body s))

-- free slots: zeros
pub free_memory : (n : ℕ) → each memory_bytes (replicate n free) ≡ replicate (64 * n) 0
free_memory n = each_zeros memory_bytes free 64 refl n

pub free_notes : (n : ℕ) → each note_bytes (replicate n free) ≡ replicate (4 * n) 0
free_notes n = each_zeros note_bytes free 4 refl n

-- ---- a laid-out state
module _ (st : State) (w : Laid st) where
  -- slots replaced by others whose memory is as long as theirs
  pub bytes_run : (k : ℕ) (ys : List Object) → k < 256 → (tag_of (get_or st.slots k free) ≡ 1 → ⊥) → k + length ys ≤ 256
      → length (each memory_bytes ys) ≡ length (each memory_bytes (take (length ys) (drop k st.slots)))
      → bytes (with_slots st (splice k ys st.slots)) ≡ splice (64 * k) (each memory_bytes ys) (splice (16384 + 4 * k) (each note_bytes ys) (bytes st))
  unfolding bytes
  bytes_run k ys hk hb hn same =
      let xs : List Object = st.slots in
      let memory : List ℕ = each memory_bytes xs in
      let notes : List ℕ = each note_bytes xs in
      let end : List ℕ = le32 st.clock ++ replicate 60 0 in
      let v : List ℕ = each memory_bytes ys in
      let u : List ℕ = each note_bytes ys in
      let at = object_offset st w k hk hb in
      let long : length (take (length ys) (drop k xs)) ≡ length ys = length-take-le (length ys) (drop k xs) (omega (arith, length-drop k xs, w.room)) in
      let samen : length u ≡ length (each note_bytes (take (length ys) (drop k xs))) = omega (arith, notes_length ys, notes_length (take (length ys) (drop k xs))) in
      let em : each memory_bytes (splice k ys xs) ≡ splice (64 * k) v memory = run_law memory_bytes k ys xs same ∙ ap (λ (i : ℕ). splice i v memory) at in
      let en : each note_bytes (splice k ys xs) ≡ splice (4 * k) u notes =
      run_law note_bytes k ys xs samen ∙ ap (λ (i : ℕ). splice i u notes) (even_offset note_bytes 4 note_length xs k (omega (arith, w.room))) in
      let fm : 64 * k + length v ≤ length memory = omega (arith, run_fits xs k (length ys)) in
      let fn : 4 * k + length u ≤ length notes = omega (arith, notes_length ys, notes_whole st w) in
      ap₂ (λ (m b : List ℕ). m ++ (b ++ end)) em en
      ∙ sym (splice_left memory (splice (4 * k) u notes ++ end) v (64 * k) fm)
      ∙ ap (splice (64 * k) v)
      (ap (λ (r : List ℕ). memory ++ r) (sym (splice_left notes end u (4 * k) fn))
      ∙ sym (splice_right memory (notes ++ end) u (4 * k))
      ∙ ap (λ (i : ℕ). splice (i + 4 * k) u (memory ++ (notes ++ end))) (memory_whole st w))

  -- a new object where all its slots are free
  pub bytes_raise : (s : Slot) (o : Object) → 1 ≤ size_of o → s.0 + size_of o ≤ 256 → ((i : ℕ) → i < size_of o → obj_at st (slot (s.0 + i)) ≡ free)
      → bytes (raise st s o) ≡ splice (64 * s.0) (memory_bytes o) (splice (16384 + 4 * s.0) (each note_bytes (risen s o)) (bytes st))
  bytes_raise s o some room none =
      let n : ℕ = size_of o in
      let long : length (risen s o) ≡ n = risen_length s o some in
      let first : obj_at st s ≡ free = ap (λ (i : ℕ). get_or st.slots i free) (sym (add-zero s.0)) ∙ none 0 some in
      let was : take n (drop s.0 st.slots) ≡ replicate n free =
      ap (λ (i : ℕ). take i (drop s.0 st.slots)) (sym (length-replicate n free))
      ∙ run_is st.slots (replicate n free) s.0 (omega (arith, length-replicate n free, w.room))
      (λ i h. let below : i < n = omega (arith, length-replicate n free) in none i below ∙ sym (get_or-replicate n i free free below)) in
      bytes_run s.0 (risen s o) (omega arith) (λ z. omega (arith, ap tag_of first)) (omega arith)
      (ap length (risen_memory s o) ∙ memory_length_lem o ∙ sym (length-replicate {A = ℕ} (64 * n) 0) ∙ ap length (sym (free_memory n))
      ∙ ap (λ (l : List Object). length (each memory_bytes l)) (sym was) ∙ ap (λ (i : ℕ). length (each memory_bytes (take i (drop s.0 st.slots)))) (sym long))
      ∙ ap (λ (v : List ℕ). splice (64 * s.0) v (splice (16384 + 4 * s.0) (each note_bytes (risen s o)) (bytes st))) (risen_memory s o)

  -- an object that stands there: its slots, one at least, lie in the memory, and it alone takes them
  module _ (s : Slot) (tag : 2 ≤ tag_of (obj_at st s)) where
    pub object_some : 1 ≤ size_of (obj_at st s)
    object_some = lay_some st.slots 0 0 (slot 0) s.0 w.laid (omega (arith, w.room, object_inside st w s (λ z. omega arith))) (λ z. omega arith)

    pub object_fits : s.0 + size_of (obj_at st s) ≤ 256
    object_fits = omega (arith, object_room st w s.0 (object_inside st w s (λ z. omega arith)) (λ z. omega arith))

    pub object_part : (j : ℕ) → suc j < size_of (obj_at st s) → obj_at st (slot (s.0 + suc j)) ≡ body s
    object_part j h = lay_part st.slots 0 0 (slot 0) w.laid s.0 j h ∙ ap (λ (n : ℕ). body (slot n)) (zero-add s.0)

    pub object_slots : take (size_of (obj_at st s)) (drop s.0 st.slots) ≡ risen s (obj_at st s)
    object_slots =
        let n : ℕ = size_of (obj_at st s) in
        let long : length (risen s (obj_at st s)) ≡ n = risen_length s (obj_at st s) object_some in
        ap (λ (i : ℕ). take i (drop s.0 st.slots)) (sym long)
        ∙ run_is st.slots (risen s (obj_at st s)) s.0 (omega (arith, object_fits, w.room)) (λ i h. go i (omega (arith, long)))
      where
        go : (i : ℕ) → i < size_of (obj_at st s) → get_or st.slots (s.0 + i) free ≡ get_or (risen s (obj_at st s)) i free
        go zero h = ap (λ (i : ℕ). get_or st.slots i free) (add-zero s.0)
        go (suc i) h = object_part i h ∙ sym (get_or-replicate (size_of (obj_at st s) - 1) i (body s) free (omega arith))

    -- "Freed slots are zeroed"
    pub bytes_raze : bytes (raze st s)
        ≡ splice (64 * s.0) (replicate (64 * size_of (obj_at st s)) 0) (splice (16384 + 4 * s.0) (replicate (4 * size_of (obj_at st s)) 0) (bytes st))
    bytes_raze =
        let n : ℕ = size_of (obj_at st s) in
        let long : length (replicate n free) ≡ n = length-replicate n free in
        bytes_run s.0 (replicate n free) (object_inside st w s (λ z. omega arith)) (λ z. omega arith) (omega (arith, object_fits))
        (ap length (free_memory n) ∙ length-replicate {A = ℕ} (64 * n) 0 ∙ sym (memory_length_lem (obj_at st s)) ∙ ap length (sym (risen_memory s (obj_at st s)))
        ∙ ap (λ (l : List Object). length (each memory_bytes l)) (sym object_slots) ∙ ap (λ (i : ℕ). length (each memory_bytes (take i (drop s.0 st.slots)))) (sym long))
        ∙ ap₂ (λ (v u : List ℕ). splice (64 * s.0) v (splice (16384 + 4 * s.0) u (bytes st))) (free_memory n) (free_notes n)
