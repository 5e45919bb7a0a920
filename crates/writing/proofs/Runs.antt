-- One word over and over: zeros, and the notes of later slots; and the first words stored over such a run.
use Rattle.std.proofs.Common.{◌≡◌, ℕ, zero, suc, length, take, drop, ◌+◌, ◌-◌, ◌*◌, ◌<◌, ◌≤◌, List, [], ◌∷◌, ◌++◌, replicate, refl, ap, ◌∙◌, arith}
use native.Mathlib.Nat.{zero-add}
use lib.ListN.{length-replicate}
use Rattle.std.proofs.lemmas.List.{drop-replicate}
use Rattle.words.specs.Sizes.{slot_count}
use Rattle.state.specs.State.{splice, body}
use Rattle.state.specs.Bytes.{each, le32, words_bytes, note_of, note_bytes}
use Rattle.writing.specs.Names.{Slot}
use Rattle.writing.proofs.Digits.{le32_two}
use Rattle.writing.proofs.Stores.{lent, lent_length, length_words}

words_each : (ws : List ℕ) → words_bytes ws ≡ each le32 ws
unfolding each
words_each [] = refl
words_each (w ∷ ws) = ap (λ (l : List ℕ). le32 w ++ l) (words_each ws)

-- a part of k bytes lent on comes back as zeros
pub cleared : (l x : List ℕ) (at k : ℕ) → at + k ≤ length l → x ≡ replicate (length (take (at + k - at) (drop at l))) 0
    → take at l ++ (x ++ drop (at + k - at) (drop at l)) ≡ splice at (replicate k 0) l
cleared l x at k h e =
    lent l x (replicate k 0) at k (e ∙ ap (λ (n : ℕ). replicate n 0) (lent_length l at k h)) (length-replicate k 0)

-- the notes of later slots
run_notes : (k : Slot) → k.0 < slot_count → (n : ℕ) → words_bytes (replicate n (1 + 256 * k.0)) ≡ each note_bytes (replicate n (body k))
unfolding each
run_notes k h zero = refl
run_notes k h (suc n) =
    ap (λ (v : List ℕ). v ++ words_bytes (replicate n (1 + 256 * k.0))) (le32_two 1 k.0 (omega arith) h)
    ∙ ap (λ (v : List ℕ). note_of 1 k.0 ++ v) (run_notes k h n)

-- ---- the first words stored over a run: over zeros, and one over notes
pub first_put : (ws : List ℕ) (n : ℕ) → splice 0 (words_bytes ws) (replicate n 0) ≡ words_bytes ws ++ replicate (n - 4 * length ws) 0
unfolding splice
first_put ws n = ap (λ (l : List ℕ). words_bytes ws ++ l) (drop-replicate (0 + length (words_bytes ws)) n 0 ∙ ap (λ (k : ℕ). replicate (n - k) 0) (zero-add (length (words_bytes ws)) ∙ length_words ws))

pub notes_put : (k : Slot) (n tag argument : ℕ) → k.0 < slot_count → tag < 256 → argument < 256 → 1 ≤ n
    → splice 0 (le32 (tag + 256 * argument)) (words_bytes (replicate n (1 + 256 * k.0))) ≡ note_of tag argument ++ each note_bytes (replicate (n - 1) (body k))
unfolding splice
notes_put k n tag argument hk ht ha h =
    let e : n ≡ suc (n - 1) = omega arith in
    ap (λ (i : ℕ). splice 0 (le32 (tag + 256 * argument)) (words_bytes (replicate i (1 + 256 * k.0)))) e
    ∙ ap (λ (v : List ℕ). v ++ words_bytes (replicate (n - 1) (1 + 256 * k.0))) (le32_two tag argument ht ha)
    ∙ ap (λ (v : List ℕ). note_of tag argument ++ v) (run_notes k hk (n - 1))
