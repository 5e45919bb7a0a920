-- How long the parts of the bytes are and where they start: an object's memory begins at its slot.
use mathlib.Core.Path.{◌≡◌, refl, ◌∙◌}
use mathlib.Core.Bool.{Bool, true, false, false≢true}
use mathlib.Core.List.{List, [], ◌∷◌, ◌++◌}
use Prim.Native.Nat.{ℕ, zero, suc, ◌+◌, ◌*◌, ◌-◌, ◌<◌, ◌≤◌}
use native.Mathlib.Nat.{not-suc-le-zero, le_of_suc-le-suc}
use native.Mathlib.Omega.{arith}
use borrow.Author.Tests.{eqb-true}
use lib.ListN.{length, get_or, take, set, replicate, length-append, length-replicate}
use Rattle.words.specs.Fields.{slot}
use Rattle.state.specs.Names.{Slot, Place, None, Some, Position, Empty, Page, Child}
use Rattle.state.specs.State.{Object, free, body, table, directory, process, endpoint, State, size_of}
use Rattle.state.specs.Layout.{goes_on, lay, Laid}
use Rattle.state.specs.Bytes.{each, place_bytes, position_bytes, own_bytes, memory_bytes, tag_of, note_bytes, le32, bytes}
use Rattle.state.proofs.Pieces.{offset, offset_fits, even_length}

pub place_length : (p : Place) → length (place_bytes p) ≡ 32
unfolding place_bytes
place_length None = refl
place_length (Some c) = refl

pub position_length : (e : Position) → length (position_bytes e) ≡ 8
position_length Empty = refl
position_length (Page f x) = refl
position_length (Child o x) = refl

pub note_length : (o : Object) → length (note_bytes o) ≡ 4
note_length o = refl

pub table_length : (ps : List Place) → length (each place_bytes ps) ≡ 32 * length ps
table_length ps = even_length place_bytes 32 place_length ps

pub positions_length : (es : List Position) → length (each position_bytes es) ≡ 8 * length es
positions_length es = even_length position_bytes 8 position_length es

pub notes_length : (os : List Object) → length (each note_bytes os) ≡ 4 * length os
notes_length os = even_length note_bytes 4 note_length os

own_fits : (o : Object) → length (own_bytes o) ≤ 64 * size_of o
own_fits free = omega arith
own_fits (body h) = omega arith
own_fits (table ps) = omega (arith, table_length ps)
own_fits (directory g es) = omega (arith, positions_length es)
own_fits (process t d) = omega arith
own_fits (endpoint c b) = omega arith

pub memory_length_lem : (o : Object) → length (memory_bytes o) ≡ 64 * size_of o
memory_length_lem o =
    length-append (own_bytes o) (replicate (64 * size_of o - length (own_bytes o)) 0)
    ∙ omega (arith, own_fits o, length-replicate {A = ℕ} (64 * size_of o - length (own_bytes o)) 0)

-- ---- one step of the layout, opened
pub lay_zero : (k : ℕ) (h : Slot) (o : Object) (os : List Object) → lay k zero h (o ∷ os) ≡ true → (m : ℕ) × (size_of o ≡ suc m) × (lay (suc k) m (slot k) os ≡ true)
unfolding lay
lay_zero k h o os = go (size_of o) refl
  where
    go : (s : ℕ) → size_of o ≡ s → lay k zero h (o ∷ os) ≡ true → (m : ℕ) × (size_of o ≡ suc m) × (lay (suc k) m (slot k) os ≡ true)
    go zero e l = absurd (false≢true (rw (e, lay) at l))
    go (suc m) e l = (m, e, rw (e, lay) at l)

pub lay_suc : (k c : ℕ) (h : Slot) (o : Object) (os : List Object) → lay k (suc c) h (o ∷ os) ≡ true → (goes_on h o ≡ true) × (lay (suc k) c h os ≡ true)
unfolding lay
lay_suc k c h o os = go (goes_on h o) refl
  where
    go : (b : Bool) → goes_on h o ≡ b → lay k (suc c) h (o ∷ os) ≡ true → (goes_on h o ≡ true) × (lay (suc k) c h os ≡ true)
    go true e l = (e, rw (e, lay) at l)
    go false e l = absurd (false≢true (rw (e, lay) at l))

-- what stands in a later slot names the first, has no bytes of its own, and its tag is 1
pub goes_body : (h : Slot) (o : Object) → goes_on h o ≡ true → o ≡ body h
goes_body h free l = absurd (false≢true l)
goes_body h (body f) l = let e : f.0 ≡ h.0 = eqb-true _ _ l in λ i. body (record { 0 = e i })
goes_body h (table ps) l = absurd (false≢true l)
goes_body h (directory g es) l = absurd (false≢true l)
goes_body h (process t d) l = absurd (false≢true l)
goes_body h (endpoint c b) l = absurd (false≢true l)

pub goes_none : (h : Slot) (o : Object) → goes_on h o ≡ true → (size_of o ≡ 0) × (tag_of o ≡ 1)
goes_none h o l = rw (goes_body h o l) (refl, refl)

-- ---- the memory is 64 bytes a slot
pub memory_total : (k c : ℕ) (h : Slot) (xs : List Object) → lay k c h xs ≡ true → length (each memory_bytes xs) + 64 * c ≡ 64 * length xs
unfolding lay each
memory_total k zero h [] l = refl
memory_total k (suc c) h [] l = absurd (false≢true l)
memory_total k zero h (o ∷ os) l =
    let s = lay_zero k h o os l in
    omega (arith, length-append (memory_bytes o) (each memory_bytes os), memory_length_lem o, s.1, memory_total (suc k) s.0 (slot k) os s.2)
memory_total k (suc c) h (o ∷ os) l =
    let s = lay_suc k c h o os l in
    omega (arith, length-append (memory_bytes o) (each memory_bytes os), memory_length_lem o, (goes_none h o s.0).0, memory_total (suc k) c h os s.1)

-- and an object starts at its slot
pub memory_offset : (k c : ℕ) (h : Slot) (xs : List Object) (i : ℕ) → lay k c h xs ≡ true → i < length xs → (tag_of (get_or xs i free) ≡ 1 → ⊥)
    → offset memory_bytes xs i + 64 * c ≡ 64 * i
unfolding lay each
memory_offset k c h [] i l hi hb = absurd (not-suc-le-zero hi)
memory_offset k zero h (o ∷ os) zero l hi hb = refl
memory_offset k (suc c) h (o ∷ os) zero l hi hb = absurd (hb (goes_none h o (lay_suc k c h o os l).0).1)
memory_offset k zero h (o ∷ os) (suc i) l hi hb =
    let s = lay_zero k h o os l in
    omega (arith, length-append (memory_bytes o) (each memory_bytes (take i os)), memory_length_lem o, s.1, memory_offset (suc k) s.0 (slot k) os i s.2 (le_of_suc-le-suc hi) hb)
memory_offset k (suc c) h (o ∷ os) (suc i) l hi hb =
    let s = lay_suc k c h o os l in
    omega (arith, length-append (memory_bytes o) (each memory_bytes (take i os)), memory_length_lem o, (goes_none h o s.0).0, memory_offset (suc k) c h os i s.1 (le_of_suc-le-suc hi) hb)

-- ---- a laid-out state
module _ (st : State) (w : Laid st) where
  pub memory_whole : length (each memory_bytes st.slots) ≡ 16384
  memory_whole = omega (arith, memory_total 0 0 (slot 0) st.slots w.laid, w.room)

  pub notes_whole : length (each note_bytes st.slots) ≡ 1024
  notes_whole = omega (arith, notes_length st.slots, w.room)

  pub bytes_length : length (bytes st) ≡ 17472
  unfolding bytes
  bytes_length =
      length-append (each memory_bytes st.slots) (each note_bytes st.slots ++ (le32 st.clock ++ replicate 60 0))
      ∙ omega (arith, memory_whole, notes_whole, length-append (each note_bytes st.slots) (le32 st.clock ++ replicate 60 0))

  pub object_offset : (i : ℕ) → i < 256 → (tag_of (get_or st.slots i free) ≡ 1 → ⊥) → offset memory_bytes st.slots i ≡ 64 * i
  object_offset i h n = omega (arith, memory_offset 0 0 (slot 0) st.slots i w.laid (omega (arith, w.room)) n)

  -- the object's slots lie in the memory
  pub object_room : (i : ℕ) → i < 256 → (tag_of (get_or st.slots i free) ≡ 1 → ⊥) → 64 * i + 64 * size_of (get_or st.slots i free) ≤ 16384
  object_room i h n =
      omega (arith, object_offset i h n, offset_fits memory_bytes free st.slots i (omega (arith, w.room)), memory_length_lem (get_or st.slots i free), memory_whole)

-- ---- the layout stays where an object is replaced by one of its size, and a later slot only by itself
pub lay_set : (xs : List Object) (i k c : ℕ) (h : Slot) (o : Object) → size_of o ≡ size_of (get_or xs i free)
    → ((g : Slot) → goes_on g o ≡ goes_on g (get_or xs i free)) → lay k c h (set xs i o) ≡ lay k c h xs
unfolding lay
lay_set [] i k c h o es eb = refl
lay_set (x ∷ xs) zero k zero h o es eb = rw (es, lay)
lay_set (x ∷ xs) zero k (suc c) h o es eb = rw (eb h, lay)
lay_set (x ∷ xs) (suc i) k zero h o es eb = go (λ m. lay_set xs i (suc k) m (slot k) o es eb) (size_of x) refl
  where
    go : ((m : ℕ) → lay (suc k) m (slot k) (set xs i o) ≡ lay (suc k) m (slot k) xs) → (s : ℕ) → size_of x ≡ s → lay k zero h (x ∷ set xs i o) ≡ lay k zero h (x ∷ xs)
    go f zero e = rw (e, lay)
    go f (suc m) e = rw (e, lay) (f m)
lay_set (x ∷ xs) (suc i) k (suc c) h o es eb = go (lay_set xs i (suc k) c h o es eb) (goes_on h x) refl
  where
    go : lay (suc k) c h (set xs i o) ≡ lay (suc k) c h xs → (b : Bool) → goes_on h x ≡ b → lay k (suc c) h (x ∷ set xs i o) ≡ lay k (suc c) h (x ∷ xs)
    go f true e = rw (e, lay) f
    go f false e = rw (e, lay)
