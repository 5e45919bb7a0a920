-- THE law of this part of the check: where the objects are laid out, the buffer is the bytes of its state slot by slot.
use mathlib.Core.Bool.{Bool, true}
use mathlib.Core.List.{◌++◌, List, [], ◌∷◌}
use mathlib.Core.Path.{ap, ap₂, sym, ◌∙◌, ◌≡◌}
use Prim.Native.Nat.{◌*◌, ◌+◌, suc, zero, ℕ}
use native.Mathlib.Omega.{arith}
use lib.ListN.{drop, get_or, length, replicate}
use lib.Seq.{drop-drop}
use Rattle.audit_entries.proofs.Bounded.{all_agree}
use Rattle.rules.specs.Buffer.{same}
use Rattle.rules.specs.WellFormed.{apart}
use Rattle.state.proofs.Look.{clock_read, slots_length}
use Rattle.state.proofs.Sizes.{bytes_length, goes_body, lay_suc, lay_zero, memory_length_lem, memory_whole, note_length, notes_whole}
use Rattle.state.specs.Bytes.{bytes, each, le32, memory_bytes, note_bytes}
use Rattle.state.specs.Layout.{lay}
use Rattle.state.specs.Read.{read, word_at}
use Rattle.state.specs.State.{Object, free}
use Rattle.words.proofs.Tests.{and_yes}
use Rattle.words.specs.Fields.{slot}
use Rattle.words.specs.Sizes.{clock_offset, memory_length, slot_count, slot_size, state_length}
use Rattle.words.specs.Tests.{◌&◌, all_below}
use Rattle.audit_bytes.specs.Clean.{zero_words}
use Rattle.audit_bytes.specs.Names.{Slot}
use Rattle.audit_bytes.specs.Stands.{note_stands, object_stands, starts}
use Rattle.audit_bytes.proofs.Runs.{starts_even, zeros_stand}
use Rattle.audit_bytes.proofs.SlotParts.{laid_open}
use Rattle.audit_bytes.proofs.Starts.{same_starts, starts_append, starts_nil}
use Rattle.audit_bytes.proofs.Tests.{all_front, and_swap, eqb_self}
use Rattle.audit_bytes.proofs.Words.{Bytes, word_fits, word_stands}

-- ---- the memory. l is the memory from slot k on, of which c slots belong to the object before
shift : (o : Object) (os : List Object) (l : List ℕ)
    → all_below (length os) (λ i. starts (memory_bytes (get_or os i free)) (drop (slot_size * i) (drop slot_size l)))
    ≡ all_below (length os) (λ i. starts (memory_bytes (get_or (o ∷ os) (suc i) free)) (drop (slot_size * suc i) l))
shift o os l =
    all_agree (length os) _ _ (λ i h. let q : slot_size + slot_size * i ≡ slot_size * suc i = omega arith in
    ap (starts (memory_bytes (get_or os i free))) (drop-drop (slot_size * i) slot_size l ∙ ap (λ (n : ℕ). drop n l) q))

memory_stands : (os : List Object) (k c : ℕ) (h : Slot) (l : List ℕ) → lay k c h os ≡ true
    → starts (each memory_bytes os) (drop (slot_size * c) l) ≡ all_below (length os) (λ i. starts (memory_bytes (get_or os i free)) (drop (slot_size * i) l))
unfolding all_below each
memory_stands [] k c h l t = starts_nil (drop (slot_size * c) l)
memory_stands (o ∷ os) k zero h l t =
    let s = lay_zero k h o os t in
    let n : length (memory_bytes o) ≡ slot_size + slot_size * s.0 = memory_length_lem o ∙ omega (arith, s.1) in
    starts_append (memory_bytes o) (each memory_bytes os) l
    ∙ ap (λ (x : List ℕ). starts (memory_bytes o) l & starts (each memory_bytes os) x) (ap (λ (i : ℕ). drop i l) n ∙ sym (drop-drop (slot_size * s.0) slot_size l))
    ∙ ap (λ (x : Bool). starts (memory_bytes o) l & x) (memory_stands os (suc k) s.0 (slot k) (drop slot_size l) s.2 ∙ shift o os l)
    ∙ sym (all_front (length os) (λ i. starts (memory_bytes (get_or (o ∷ os) i free)) (drop (slot_size * i) l)))
memory_stands (o ∷ os) k (suc c) h l t =
    let s = lay_suc k c h o os t in
    let e : memory_bytes o ≡ [] = ap memory_bytes (goes_body h o s.0) in
    let q : slot_size * suc c ≡ slot_size + slot_size * c = omega arith in
    let b : starts (memory_bytes o) l ≡ true = ap (λ (x : List ℕ). starts x l) e ∙ starts_nil l in
    ap (λ (x : List ℕ). starts (x ++ each memory_bytes os) (drop (slot_size * suc c) l)) e
    ∙ ap (starts (each memory_bytes os)) (ap (λ (i : ℕ). drop i l) q ∙ sym (drop-drop (slot_size * c) slot_size l))
    ∙ memory_stands os (suc k) c h (drop slot_size l) s.1 ∙ shift o os l
    ∙ sym (and_yes (starts (memory_bytes o) l) _ b)
    ∙ sym (all_front (length os) (λ i. starts (memory_bytes (get_or (o ∷ os) i free)) (drop (slot_size * i) l)))

module _ (b : List ℕ) (u : Bytes b) (long : length b ≡ state_length) (laid : apart (read b) ≡ true) where
  abbrev os : List Object
  os = (read b).slots

  -- the clock is any word
  tail_stands : starts (le32 (read b).clock ++ replicate 60 0) (drop clock_offset b) ≡ zero_words b 17412 15
  tail_stands =
      starts_append (le32 (read b).clock) (replicate 60 0) (drop clock_offset b)
      ∙ and_yes _ _ (rw (clock_read b) (word_stands b u clock_offset (word_at b clock_offset) (omega arith) (word_fits b u clock_offset) ∙ eqb_self (word_at b clock_offset)))
      ∙ ap (starts (replicate 60 0)) (drop-drop 4 clock_offset b) ∙ zeros_stand b u 17412 15 (omega arith)

  notes_stand : starts (each note_bytes os) (drop memory_length b) ≡ all_below slot_count (λ k. note_stands b (slot k))
  notes_stand =
      starts_even note_bytes 4 note_length free os (drop memory_length b)
      ∙ ap (λ (i : ℕ). all_below i (λ j. starts (note_bytes (get_or os j free)) (drop (4 * j) (drop memory_length b)))) (slots_length b)
      ∙ all_agree slot_count _ _ (λ i h. ap (starts (note_bytes (get_or os i free))) (drop-drop (4 * i) memory_length b))

  objects_stand : starts (each memory_bytes os) b ≡ all_below slot_count (λ k. object_stands b (slot k))
  objects_stand =
      memory_stands os 0 0 (slot 0) b (laid_open b laid).laid
      ∙ ap (λ (i : ℕ). all_below i (λ j. starts (memory_bytes (get_or os j free)) (drop (slot_size * j) b))) (slots_length b)

  -- in the order of the code: the notes and the spare bytes first
  pub canonical_parts : same (bytes (read b)) b
      ≡ (all_below slot_count (λ k. note_stands b (slot k)) & (zero_words b 17412 15 & all_below slot_count (λ k. object_stands b (slot k))))
  unfolding bytes
  canonical_parts =
      let w = laid_open b laid in
      let mem : List ℕ = each memory_bytes os in
      let note : List ℕ = each note_bytes os in
      let end : List ℕ = le32 (read b).clock ++ replicate 60 0 in
      same_starts (bytes (read b)) b (bytes_length (read b) w ∙ sym long)
      ∙ starts_append mem (note ++ end) b
      ∙ ap₂ (λ (x y : Bool). x & y) objects_stand
      (ap (λ (i : ℕ). starts (note ++ end) (drop i b)) (memory_whole (read b) w)
      ∙ starts_append note end (drop memory_length b)
      ∙ ap₂ (λ (x y : Bool). x & y) notes_stand
      (ap (starts end) (drop-drop (length note) memory_length b ∙ ap (λ (i : ℕ). drop (memory_length + i) b) (notes_whole (read b) w)) ∙ tail_stands))
      ∙ and_swap _ _ _
