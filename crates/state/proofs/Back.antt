-- Reading back what was written: a laid-out state whose fields have the room that the bytes give them is the state that its bytes hold.
-- So no two such states have the same bytes, and a buffer that holds `bytes st` is read as st.
use mathlib.Core.Path.{◌≡◌, refl, sym, ◌∙◌, ap, ap₂}
use mathlib.Core.Bool.{Bool, true, false}
use mathlib.Core.List.{List, [], ◌∷◌, ◌++◌, append_assoc}
use Prim.Native.Nat.{ℕ, zero, suc, ◌+◌, ◌*◌, ◌-◌, ◌/◌, ◌%◌, ◌^◌, ◌<◌, ◌≤◌, zero-le, suc-le-suc}
use native.Mathlib.Nat.{mod-eq_of_lt, add-zero}
use native.Mathlib.Omega.{arith}
use lib.Dec.{eqb}
use lib.ListN.{length, get_or, drop, replicate, length-append, get_or-append}
use lib.Seq.{get_or-drop, drop-append-le, drop_at}
use borrow.Author.Tests.{ne_eqb, le-leb}
use Rattle.words.specs.Rights.{kind_no, object_of, low_of, high_of, stamp_of}
use Rattle.words.specs.Fields.{slot}
use Rattle.state.specs.Names.{Slot, Kind, Table, Directory, Memory, Process, Endpoint, Function, Frost, Thawed, Frozen, Origin, None, Some, Capability, Geometry, Place, Position, Empty, Page, Child}
use Rattle.state.specs.State.{Object, free, body, table, directory, process, endpoint, State, size_of}
use Rattle.state.specs.Layout.{Laid}
use Rattle.state.specs.Bytes.{le32, mark, each, frozen_no, parent_no, place_bytes, position_bytes, own_bytes, memory_bytes, tag_of, argument_of, note_bytes, bytes}
use Rattle.state.specs.Read.{joined, word_at, marked, listed, frost_from, origin_from, held, place_from, place_of, position_from, position_of, positions_for, object_from, slot_from, read}
use Rattle.state.proofs.Pieces.{each_drop, even_drop}
use Rattle.state.proofs.Parts.{word_drop, place_drop, position_drop}
use Rattle.state.proofs.Sizes.{place_length, position_length, note_length, memory_whole, notes_whole, object_offset}

-- ---- what has room: a word has four bytes, a slot is read from one
pub record RightFits (c : Capability) : Type 0 where
  pub flags : c.flags < 2 ^ 32
  pub object : (object_of c.kind).0 < 256
  pub low : low_of c.kind < 2 ^ 32
  pub high : high_of c.kind < 2 ^ 32
  pub stamp : stamp_of c.frost < 2 ^ 32
  pub parent : parent_no c.origin < 2 ^ 32

abbrev pub PlaceFits : Place → Type 0
PlaceFits None = Unit {0}
PlaceFits (Some c) = RightFits c

-- a position's flags stand in the bytes uncut, as a note's argument does, so nothing is asked of them
abbrev pub PositionFits : Position → Type 0
PositionFits Empty = Unit {0}
PositionFits (Page f x) = f < 2 ^ 32
PositionFits (Child o x) = o.0 < 256

-- above order 8 no position is read
pub record ShapeFits (g : Geometry) (es : List Position) : Type 0 where
  pub size : g.size < 2 ^ 32
  pub start : g.start < 2 ^ 32
  pub number : g.number ≤ 8
  pub count : length es ≡ 2 ^ g.number
  pub each_fits : (k : ℕ) → k < length es → PositionFits (get_or es k Empty)

abbrev pub ObjectFits : Object → Type 0
ObjectFits free = Unit {0}
ObjectFits (body h) = Unit {0}
ObjectFits (table ps) = (k : ℕ) → k < length ps → PlaceFits (get_or ps k None)
ObjectFits (directory g es) = ShapeFits g es
ObjectFits (process t d) = (t.0 < 256) × (d.0 < 256)
ObjectFits (endpoint c b) = c.0 < 2 ^ 32

-- ---- words, and what is made of them
word_back : (v : ℕ) → v < 2 ^ 32 → joined (v % 256) (v / 256 % 256) (v / 256 / 256 % 256) (v / 256 / 256 / 256 % 256) ≡ v
word_back v h = omega arith

mark_back : (b : Bool) → marked (joined (mark b % 256) (mark b / 256 % 256) (mark b / 256 / 256 % 256) (mark b / 256 / 256 / 256 % 256)) ≡ b
mark_back true = refl
mark_back false = refl

slot_back : (o : Slot) → o.0 < 256 → slot (o.0 % 256) ≡ o
slot_back o h = ap slot (mod-eq_of_lt h)

kind_small : (k : Kind) → kind_no k < 2 ^ 32
kind_small (Table o) = omega arith
kind_small (Directory o l h) = omega arith
kind_small (Memory l h) = omega arith
kind_small (Process o) = omega arith
kind_small (Endpoint o) = omega arith
kind_small (Function l h) = omega arith

kind_back : (k : Kind) (f : ℕ) (x : Frost) (r : Origin) → place_from (kind_no k) (object_of k) (low_of k) (high_of k) f x r ≡ held k f x r
unfolding place_from
kind_back (Table o) f x r = refl
kind_back (Directory o l h) f x r = refl
kind_back (Memory l h) f x r = refl
kind_back (Process o) f x r = refl
kind_back (Endpoint o) f x r = refl
kind_back (Function l h) f x r = refl

frost_small : (x : Frost) → frozen_no x < 2 ^ 32
frost_small Thawed = omega arith
frost_small (Frozen s) = omega arith

frost_back : (x : Frost) → frost_from (frozen_no x) (stamp_of x) ≡ x
unfolding frost_from
frost_back Thawed = refl
frost_back (Frozen s) = refl

origin_back : (o : Origin) → origin_from (parent_no o) ≡ o
unfolding origin_from
origin_back None = refl
origin_back (Some n) =
    let z : eqb (n + 1) 0 ≡ false = ne_eqb (n + 1) 0 (omega arith) in
    let e : n + 1 - 1 ≡ n = omega arith in
    rw (z, e)

word_first : (v : ℕ) (rest : List ℕ) → v < 2 ^ 32 → word_at (le32 v ++ rest) 0 ≡ v
unfolding word_at
word_first v rest h = word_back v h

pub place_back : (p : Place) (rest : List ℕ) → PlaceFits p → place_of (place_bytes p ++ rest) 0 ≡ p
unfolding place_of place_bytes word_at place_from
place_back None rest h = refl
place_back (Some c) rest h =
    let k = c.kind in
    let e₁ = word_back (kind_no k) (kind_small k) in
    let e₂ = slot_back (object_of k) h.object in
    let e₃ = word_back (low_of k) h.low in
    let e₄ = word_back (high_of k) h.high in
    let e₅ = word_back c.flags h.flags in
    let e₆ = ap₂ frost_from (word_back (frozen_no c.frost) (frost_small c.frost)) (word_back (stamp_of c.frost) h.stamp) ∙ frost_back c.frost in
    let e₇ = ap origin_from (word_back (parent_no c.origin) h.parent) ∙ origin_back c.origin in
    (λ i. place_from (e₁ i) (e₂ i) (e₃ i) (e₄ i) (e₅ i) (e₆ i) (e₇ i)) ∙ kind_back k c.flags c.frost c.origin

pub position_back : (e : Position) (rest : List ℕ) → PositionFits e → position_of (position_bytes e ++ rest) 0 ≡ e
unfolding position_of position_from word_at
position_back Empty rest h = refl
position_back (Page f x) rest h = ap (λ (n : ℕ). Page n x) (word_back f h)
position_back (Child o x) rest h = ap (λ (s : Slot). Child s x) (slot_back o h)

-- ---- lists, element by element
listed_back : {A : Type 0} (d : A) (xs : List A) (f : ℕ → A) → ((i : ℕ) → i < length xs → f i ≡ get_or xs i d) → listed (length xs) f ≡ xs
unfolding listed
listed_back d [] f h = refl
listed_back d (x ∷ xs) f h = ap₂ ◌∷◌ (h zero (suc-le-suc zero-le)) (listed_back d xs (λ k. f (suc k)) (λ i l. h (suc i) (suc-le-suc l)))

-- pieces of one length, each of which reads back
module _ {A : Type 0} (d : A) (f : List ℕ → ℕ → A) (g : A → List ℕ) (w : ℕ) (Good : A → Type 0) (u : (x : A) → length (g x) ≡ w)
    (s : (l : List ℕ) (a k : ℕ) → f (drop a l) k ≡ f l (a + k)) (b : (x : A) (rest : List ℕ) → Good x → f (g x ++ rest) 0 ≡ x) where
  pieces_back : (xs : List A) (rest : List ℕ) → ((k : ℕ) → k < length xs → Good (get_or xs k d)) → listed (length xs) (λ i. f (each g xs ++ rest) (w * i)) ≡ xs
  pieces_back xs rest h = listed_back d xs (λ i. f (each g xs ++ rest) (w * i)) (λ i l.
      ap (f (each g xs ++ rest)) (sym (add-zero (w * i)))
      ∙ sym (s (each g xs ++ rest) (w * i) 0)
      ∙ ap (λ (r : List ℕ). f r 0) (even_drop g w u d xs rest i l)
      ∙ b (get_or xs i d) (each g (drop (suc i) xs) ++ rest) (h i l))

-- ---- an object, from its note and its memory
abbrev pad : Object → List ℕ
pad o = replicate (64 * size_of o - length (own_bytes o)) 0

positions_for_lem : (k : ℕ) → k ≤ 8 → positions_for k ≡ 2 ^ k
unfolding positions_for
positions_for_lem k h = rw (le-leb k 8 h)

body_from : (f : Slot) (l : List ℕ) → object_from 1 f.0 l ≡ body f
unfolding object_from
body_from f l = refl

pub object_back : (o : Object) (rest : List ℕ) → ObjectFits o → object_from (tag_of o) (argument_of o) (memory_bytes o ++ rest) ≡ o
unfolding object_from word_at
object_back free rest h = refl
object_back (body f) rest h = refl
object_back (table ps) rest h =
    ap table
    (ap (λ (l : List ℕ). listed (length ps) (λ i. place_of l (32 * i))) (append_assoc (each place_bytes ps) (pad (table ps)) rest)
    ∙ pieces_back None place_of place_bytes 32 PlaceFits place_length place_drop place_back ps (pad (table ps) ++ rest) h)
object_back (directory g es) rest h =
    let e₁ = word_back g.size h.size in
    let e₂ = mark_back g.top in
    let e₃ = word_back g.start h.start in
    let own : List ℕ = memory_bytes (directory g es) ++ rest in
    let e₄ : listed (positions_for g.number) (λ i. position_of own (32 + 8 * i)) ≡ es =
    ap (λ (n : ℕ). listed n (λ i. position_of own (32 + 8 * i))) (positions_for_lem g.number h.number ∙ sym h.count)
    -- behind the header
    ∙ ap (listed (length es)) (λ j i. sym (position_drop own 32 (8 * i)) j)
    ∙ ap (λ (l : List ℕ). listed (length es) (λ i. position_of l (8 * i))) (append_assoc (each position_bytes es) (pad (directory g es)) rest)
    ∙ pieces_back Empty position_of position_bytes 8 PositionFits position_length position_drop position_back es (pad (directory g es) ++ rest) h.each_fits in
    λ i. directory (record { size = e₁ i; number = g.number; top = e₂ i; start = e₃ i }) (e₄ i)
object_back (process t d) rest h = ap₂ process (slot_back t h.0) (slot_back d h.1)
object_back (endpoint c b) rest h = rw (word_back c.0 h, mark_back)

-- ---- the whole state
module _ (st : State) (w : Laid st) where
  -- the note of a slot
  note_at : (i k : ℕ) → i < 256 → k < 4 → get_or (bytes st) (16384 + (4 * i + k)) 0 ≡ get_or (note_bytes (get_or st.slots i free)) k 0
  unfolding bytes
  note_at i k h hk =
      let end : List ℕ = le32 st.clock ++ replicate 60 0 in
      let notes : List ℕ = each note_bytes st.slots ++ end in
      let o : Object = get_or st.slots i free in
      sym (get_or-drop 16384 (bytes st) (4 * i + k) 0)
      ∙ ap (λ (l : List ℕ). get_or l (4 * i + k) 0) (drop_at (each memory_bytes st.slots) notes 16384 (memory_whole st w))
      ∙ sym (get_or-drop (4 * i) notes k 0)
      ∙ ap (λ (l : List ℕ). get_or l k 0) (even_drop note_bytes 4 note_length free st.slots end i (omega (arith, w.room)))
      ∙ get_or-append (note_bytes o) (each note_bytes (drop (suc i) st.slots) ++ end) 0 k (omega (arith, note_length o))

  -- what follows the memory of slot i
  abbrev behind : ℕ → List ℕ
  behind i = each memory_bytes (drop (suc i) st.slots) ++ (each note_bytes st.slots ++ (le32 st.clock ++ replicate 60 0))

  -- the memory of an object, from its first slot on
  memory_at : (i : ℕ) → i < 256 → (tag_of (get_or st.slots i free) ≡ 1 → ⊥) → drop (64 * i) (bytes st) ≡ memory_bytes (get_or st.slots i free) ++ behind i
  unfolding bytes
  memory_at i h n =
      let mem : List ℕ = each memory_bytes st.slots in
      let o : Object = get_or st.slots i free in
      let tail : List ℕ = each note_bytes st.slots ++ (le32 st.clock ++ replicate 60 0) in
      let room : i < length st.slots = omega (arith, w.room) in
      drop-append-le (64 * i) mem tail (omega (arith, memory_whole st w))
      ∙ ap (λ (l : List ℕ). l ++ tail) (ap (λ (k : ℕ). drop k mem) (sym (object_offset st w i h n)) ∙ each_drop memory_bytes free st.slots i room)
      ∙ append_assoc (memory_bytes o) (each memory_bytes (drop (suc i) st.slots)) tail

  -- a slot reads back; of a later slot of an object only the note counts
  slot_kept : (i : ℕ) → i < 256 → ObjectFits (get_or st.slots i free) → slot_from (bytes st) i ≡ get_or st.slots i free
  unfolding slot_from
  slot_kept i h f =
      ap₂ (λ (t a : ℕ). object_from t a (drop (64 * i) (bytes st)))
      (ap (λ (k : ℕ). get_or (bytes st) k 0) (omega arith) ∙ note_at i 0 h (omega arith))
      (ap (λ (k : ℕ). get_or (bytes st) k 0) (omega arith) ∙ note_at i 1 h (omega arith))
      ∙ go (get_or st.slots i free) refl f
    where
      solid : (o : Object) → get_or st.slots i free ≡ o → (tag_of o ≡ 1 → ⊥) → ObjectFits o → object_from (tag_of o) (argument_of o) (drop (64 * i) (bytes st)) ≡ o
      solid o e n f =
          ap (object_from (tag_of o) (argument_of o)) (memory_at i h (λ q. n (sym (ap tag_of e) ∙ q)) ∙ ap (λ (x : Object). memory_bytes x ++ behind i) e)
          ∙ object_back o (behind i) f

      go : (o : Object) → get_or st.slots i free ≡ o → ObjectFits o → object_from (tag_of o) (argument_of o) (drop (64 * i) (bytes st)) ≡ o
      go free e f = solid free e (λ q. omega arith) f
      go (body g) e f = body_from g (drop (64 * i) (bytes st))
      go (table ps) e f = solid (table ps) e (λ q. omega arith) f
      go (directory g es) e f = solid (directory g es) e (λ q. omega arith) f
      go (process t d) e f = solid (process t d) e (λ q. omega arith) f
      go (endpoint c b) e f = solid (endpoint c b) e (λ q. omega arith) f

  clock_kept : st.clock < 2 ^ 32 → word_at (bytes st) 17408 ≡ st.clock
  unfolding bytes
  clock_kept h =
      let mem : List ℕ = each memory_bytes st.slots in
      let notes : List ℕ = each note_bytes st.slots in
      let end : List ℕ = le32 st.clock ++ replicate 60 0 in
      let whole : length (mem ++ notes) ≡ 17408 = length-append mem notes ∙ omega (arith, memory_whole st w, notes_whole st w) in
      sym (word_drop (bytes st) 17408 0)
      ∙ ap (λ (l : List ℕ). word_at (drop 17408 l) 0) (sym (append_assoc mem notes end))
      ∙ ap (λ (l : List ℕ). word_at l 0) (drop_at (mem ++ notes) end 17408 whole)
      ∙ word_first st.clock (replicate 60 0) h

-- a laid-out state, all of it
pub read_bytes : (st : State) → Laid st → ((i : ℕ) → i < 256 → ObjectFits (get_or st.slots i free)) → st.clock < 2 ^ 32 → read (bytes st) ≡ st
unfolding read
read_bytes st w f h =
    let kept : (i : ℕ) → i < length st.slots → slot_from (bytes st) i ≡ get_or st.slots i free =
    λ i l. let k : i < 256 = omega (arith, w.room) in slot_kept st w i k (f i k) in
    let e₁ : listed 256 (slot_from (bytes st)) ≡ st.slots =
    ap (λ (n : ℕ). listed n (slot_from (bytes st))) (sym w.room) ∙ listed_back free st.slots (slot_from (bytes st)) kept in
    let e₂ = clock_kept st w h in
    λ i. record { slots = e₁ i; clock = e₂ i }
