-- A new object in bytes: three words, zeros up to the end of its last slot, and its notes. These are the laws that a creation cites.
use mathlib.Core.Path.{◌≡◌, refl, sym, ◌∙◌, ap, ap₂}
use mathlib.Core.Bool.{false}
use mathlib.Core.List.{List, [], ◌∷◌, ◌++◌}
use Prim.Native.Nat.{ℕ, ◌+◌, ◌*◌, ◌-◌, ◌<◌, ◌≤◌}
use native.Mathlib.Omega.{arith}
use lib.ListN.{length, replicate, length-replicate, replicate-append-replicate}
use Rattle.words.specs.Sizes.{slots_for}
use Rattle.words.specs.Fields.{slot, count}
use Rattle.state.specs.Names.{Slot, Geometry, Place, None, Position, Empty}
use Rattle.state.specs.State.{Object, free, body, table, directory, process, endpoint, State, size_of, obj_at, splice, raise}
use Rattle.state.specs.Layout.{Laid}
use Rattle.state.specs.Bytes.{each, words_bytes, mark, place_bytes, position_bytes, own_bytes, memory_bytes, tag_of, argument_of, note_of, note_bytes, bytes}
use Rattle.state.proofs.Zeros.{zeros_more, each_zeros}
use Rattle.state.proofs.Sizes.{table_length, positions_length}
use Rattle.state.proofs.Run.{bytes_raise}

-- three words in n slots
abbrev pub Starts : Object → (n a b c : ℕ) → Type 0
Starts o n a b c = memory_bytes o ≡ words_bytes (a ∷ b ∷ c ∷ []) ++ replicate (64 * n - 12) 0

-- the slots that it takes
pub table_slots : (n : ℕ) → size_of (table (replicate n None)) ≡ slots_for (32 * n)
table_slots n = ap (λ (i : ℕ). slots_for (32 * i)) (length-replicate n None)

pub directory_slots : (g : Geometry) (n : ℕ) → size_of (directory g (replicate n Empty)) ≡ slots_for (32 + 8 * n)
directory_slots g n = ap (λ (i : ℕ). slots_for (32 + 8 * i)) (length-replicate n Empty)

pub new_table : (n : ℕ) → 1 ≤ n → Starts (table (replicate n None)) (slots_for (32 * n)) 0 0 0
unfolding place_bytes
new_table n h =
    let ps : List Place = replicate n None in
    let long : length ps ≡ n = length-replicate n None in
    let size : size_of (table ps) ≡ slots_for (32 * n) = table_slots n in
    let k : ℕ = 64 * slots_for (32 * n) in
    zeros_more (each place_bytes ps) (32 * n) (64 * size_of (table ps) - length (each place_bytes ps)) k (each_zeros place_bytes None 32 refl n) (omega (arith, table_length ps))
    ∙ sym (zeros_more (words_bytes (0 ∷ 0 ∷ 0 ∷ [])) 12 (k - 12) k refl (omega arith))

-- the header, and empty positions
pub new_directory : (g : Geometry) (n : ℕ) → Starts (directory g (replicate n Empty)) (slots_for (32 + 8 * n)) g.size (mark g.top) g.start
new_directory g n =
    let es : List Position = replicate n Empty in
    let long : length es ≡ n = length-replicate n Empty in
    let size : size_of (directory g es) ≡ slots_for (32 + 8 * n) = directory_slots g n in
    ap (λ (v : List ℕ). words_bytes (g.size ∷ mark g.top ∷ g.start ∷ []) ++ v)
    (zeros_more (replicate 20 0 ++ each position_bytes es) (20 + 8 * n) (64 * size_of (directory g es) - length (own_bytes (directory g es))) (64 * slots_for (32 + 8 * n) - 12)
    (ap (λ (v : List ℕ). replicate 20 0 ++ v) (each_zeros position_bytes Empty 8 refl n) ∙ replicate-append-replicate 20 (8 * n) 0)
    (omega (arith, positions_length es)))

-- the bytes b with a new object of n slots from s on: tag and argument in its first note, three words in its first slot
abbrev pub with_new : List ℕ → Slot → (n tag argument a b c : ℕ) → List ℕ
with_new l s n tag argument a b c =
    splice (64 * s.0) (words_bytes (a ∷ b ∷ c ∷ []) ++ replicate (64 * n - 12) 0)
    (splice (16384 + 4 * s.0) (note_of tag argument ++ each note_bytes (replicate (n - 1) (body s))) l)

-- the n slots from s on are in kernel memory and free
pub record Vacant (st : State) (s : Slot) (n : ℕ) : Type 0 where
  pub fits : s.0 + n ≤ 256
  pub none : (i : ℕ) → i < n → obj_at st (slot (s.0 + i)) ≡ free

module _ (st : State) (w : Laid st) (s : Slot) where
  bytes_new : (o : Object) (n argument a b c : ℕ) → size_of o ≡ n → argument_of o ≡ argument → Starts o n a b c → 1 ≤ n → Vacant st s n
      → bytes (raise st s o) ≡ with_new (bytes st) s n (tag_of o) argument a b c
  unfolding each
  bytes_new o n argument a b c es ea em some room =
      let notes : (m x : ℕ) → List ℕ = λ m x. splice (16384 + 4 * s.0) (note_of (tag_of o) x ++ each note_bytes (replicate (m - 1) (body s))) (bytes st) in
      bytes_raise st w s o (rw es some) (rw es room.fits) (λ i h. room.none i (rw es at h))
      ∙ ap₂ (λ (v u : List ℕ). splice (64 * s.0) v u) em (ap₂ notes es ea)

  pub bytes_new_table : (n : ℕ) → 1 ≤ n → Vacant st s (slots_for (32 * n)) → bytes (raise st s (table (replicate n None))) ≡ with_new (bytes st) s (slots_for (32 * n)) 2 n 0 0 0
  bytes_new_table n h room =
      bytes_new (table (replicate n None)) (slots_for (32 * n)) n 0 0 0 (table_slots n) (length-replicate n None) (new_table n h) (omega arith) room

  pub bytes_new_directory : (g : Geometry) (n : ℕ) → Vacant st s (slots_for (32 + 8 * n))
      → bytes (raise st s (directory g (replicate n Empty))) ≡ with_new (bytes st) s (slots_for (32 + 8 * n)) 3 g.number g.size (mark g.top) g.start
  bytes_new_directory g n room =
      bytes_new (directory g (replicate n Empty)) (slots_for (32 + 8 * n)) g.number g.size (mark g.top) g.start
      (directory_slots g n) refl (new_directory g n) (omega arith) room

  pub bytes_new_process : (t d : Slot) → Vacant st s 1 → bytes (raise st s (process t d)) ≡ with_new (bytes st) s 1 4 0 t.0 d.0 0
  bytes_new_process t d room = bytes_new (process t d) 1 0 t.0 d.0 0 refl refl refl (omega arith) room

  pub bytes_new_endpoint : Vacant st s 1 → bytes (raise st s (endpoint (count 0) false)) ≡ with_new (bytes st) s 1 5 0 0 0 0
  bytes_new_endpoint room = bytes_new (endpoint (count 0) false) 1 0 0 0 0 refl refl refl (omega arith) room
