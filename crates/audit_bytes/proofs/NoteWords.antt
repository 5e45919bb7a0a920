-- A note stands exactly where its word is clean.
use mathlib.Core.List.{List}
use mathlib.Core.Logic.{inl, inr, ◌⊎◌}
use mathlib.Core.Path.{ap, sym, ◌∙◌, ◌≡◌}
use Prim.Native.Nat.{◌%◌, ◌*◌, ◌+◌, ◌<◌, ℕ}
use native.Mathlib.Omega.{arith}
use lib.Dec.{eqb, ltb}
use lib.ListN.{drop, get_or, length}
use borrow.Author.Tests.{ne_eqb}
use Rattle.state.proofs.Look.{argument_byte, listed_length, object_cases, object_read, tag_byte}
use Rattle.state.specs.Bytes.{note_bytes, note_of}
use Rattle.state.specs.Read.{joined, slot_from, word_at}
use Rattle.words.specs.Sizes.{memory_length, slot_count, state_length}
use Rattle.audit_bytes.specs.Clean.{note_clean}
use Rattle.audit_bytes.specs.Names.{Slot}
use Rattle.audit_bytes.specs.Stands.{note_stands, starts}
use Rattle.audit_bytes.proofs.Tests.{eqb_ltb}
use Rattle.audit_bytes.proofs.Words.{Bytes, joined_split, word_low, word_stands}

-- a later slot, a table and a directory have an argument, and the others none
clean_argued : (w : ℕ) → (w % 256 ≡ 1) ⊎ ((w % 256 ≡ 2) ⊎ (w % 256 ≡ 3)) → note_clean w ≡ ltb w 65536
unfolding note_clean
clean_argued w (inl e) = rw e
clean_argued w (inr (inl e)) = rw e
clean_argued w (inr (inr e)) = rw e

clean_bare : (w : ℕ) → (w % 256 ≡ 1 → ⊥) → (w % 256 ≡ 2 → ⊥) → (w % 256 ≡ 3 → ⊥) → note_clean w ≡ ltb w 6
unfolding note_clean
clean_bare w d1 d2 d3 = rw (ne_eqb _ _ d1, ne_eqb _ _ d2, ne_eqb _ _ d3)

module _ (b : List ℕ) (u : Bytes b) (long : length b ≡ state_length) (k : Slot) (in_it : k.0 < slot_count) where
  abbrev at : ℕ
  at = memory_length + 4 * k.0

  abbrev word : ℕ
  word = word_at b at

  stands : (t a : ℕ) → t < 256 → a < 256 → starts (note_of t a) (drop at b) ≡ eqb word (joined t a 0 0)
  stands t a ht ha =
      ap (λ (v : List ℕ). starts v (drop at b)) (sym (joined_split t a 0 0 ht ha (omega arith) (omega arith)))
      ∙ word_stands b u at (joined t a 0 0) (omega arith) (omega arith)

  parts : word ≡ joined (tag_byte b k.0) (argument_byte b k.0) (get_or b (at + 2) 0) (get_or b (at + 3) 0)
  unfolding word_at
  parts = let q : memory_length + 1 + 4 * k.0 ≡ at + 1 = omega arith in rw q

  low : (n : ℕ) → tag_byte b k.0 ≡ n → word % 256 ≡ n
  low n e = word_low b u at ∙ e

  not_low : (n : ℕ) → (tag_byte b k.0 ≡ n → ⊥) → word % 256 ≡ n → ⊥
  not_low n d e = d (sym (word_low b u at) ∙ e)

  -- with an argument the rest is zero, without one all but the tag is
  argued : (t : ℕ) → t < 256 → tag_byte b k.0 ≡ t → (word % 256 ≡ 1) ⊎ ((word % 256 ≡ 2) ⊎ (word % 256 ≡ 3))
      → starts (note_of t (argument_byte b k.0)) (drop at b) ≡ note_clean word
  argued t ht e w =
      let a = argument_byte b k.0 in
      stands t a ht (u (memory_length + 1 + 4 * k.0))
      ∙ eqb_ltb word (joined t a 0 0) 65536 (λ q. omega (arith, u (memory_length + 1 + 4 * k.0))) (λ q. omega (arith, parts))
      ∙ sym (clean_argued word w)

  bare : (t : ℕ) → t < 6 → (word < 6 → word ≡ t) → (word % 256 ≡ 1 → ⊥) → (word % 256 ≡ 2 → ⊥) → (word % 256 ≡ 3 → ⊥)
      → starts (note_of t 0) (drop at b) ≡ note_clean word
  bare t ht f d1 d2 d3 =
      stands t 0 (omega arith) (omega arith)
      ∙ eqb_ltb word (joined t 0 0 0) 6 (λ q. omega arith) (λ q. omega (arith, f q))
      ∙ sym (clean_bare word d1 d2 d3)

  pub note_stands_lem : note_stands b k ≡ note_clean word
  unfolding slot_from
  note_stands_lem =
      rw (object_read b k in_it)
      (object_cases (λ o. starts (note_bytes o) (drop at b) ≡ note_clean word) _ _ _
      (λ e. argued 1 (omega arith) e (inl (low 1 e)))
      (λ e. rw listed_length (argued 2 (omega arith) e (inr (inl (low 2 e)))))
      (λ e. argued 3 (omega arith) e (inr (inr (low 3 e))))
      (λ e. let l = low 4 e in bare 4 (omega arith) (λ q. omega arith) (λ z. omega arith) (λ z. omega arith) (λ z. omega arith))
      (λ e. let l = low 5 e in bare 5 (omega arith) (λ q. omega arith) (λ z. omega arith) (λ z. omega arith) (λ z. omega arith))
      (λ d1 d2 d3 d4 d5.
      let n4 = not_low 4 d4 in
      let n5 = not_low 5 d5 in
      bare 0 (omega arith) (λ q. small q (not_low 1 d1) (not_low 2 d2) (not_low 3 d3) n4 n5) (not_low 1 d1) (not_low 2 d2) (not_low 3 d3)))
    where
      small : word < 6 → (word % 256 ≡ 1 → ⊥) → (word % 256 ≡ 2 → ⊥) → (word % 256 ≡ 3 → ⊥) → (word % 256 ≡ 4 → ⊥) → (word % 256 ≡ 5 → ⊥) → word ≡ 0
      small h d1 d2 d3 d4 d5 = omega arith
