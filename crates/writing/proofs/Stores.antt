-- Stores of bytes and words, and a part lent on, as one part replaced.
use Rattle.std.proofs.Common.{◌≡◌, ℕ, ◌+◌, ◌-◌, ◌*◌, ◌<◌, ◌≤◌, List, [], ◌∷◌, ◌++◌, length, get_or, take, drop, sym, refl, ap, ◌∙◌, append_assoc, append-nil, add-one, arith, drop_of_length-le, length-take-le, length-drop, take_all, take-suc, drop-drop, take_at}
use native.Mathlib.Nat.{add-sub_cancel_left}
use lib.Seq.{drop-append-add}
use Rattle.state.specs.State.{splice}
use Rattle.state.specs.Bytes.{le32, words_bytes}
use Rattle.state.proofs.Pieces.{splice_lent}

-- ---- a part lent on: it comes back replaced
pub lent : (l x v : List ℕ) (at k : ℕ) → x ≡ v → length v ≡ k → take at l ++ (x ++ drop (at + k - at) (drop at l)) ≡ splice at v l
lent l x v at k e h =
    ap (λ (n : ℕ). take at l ++ (x ++ drop n (drop at l))) (add-sub_cancel_left at k)
    ∙ ap (λ (y : List ℕ). take at l ++ (y ++ drop k (drop at l))) e
    ∙ splice_lent l v at k h

-- and is as long as it was cut
pub lent_length : (l : List ℕ) (at k : ℕ) → at + k ≤ length l → length (take (at + k - at) (drop at l)) ≡ k
lent_length l at k h = omega (arith, length-take-le (at + k - at) (drop at l) (omega (arith, length-drop at l)))

-- ---- words one after the other
pub length_words : (ws : List ℕ) → length (words_bytes ws) ≡ 4 * length ws
length_words [] = refl
length_words (w ∷ ws) = let h : length (words_bytes ws) ≡ 4 * length ws = length_words ws in omega arith

words_append : (us ws : List ℕ) → words_bytes (us ++ ws) ≡ words_bytes us ++ words_bytes ws
words_append [] ws = refl
words_append (u ∷ us) ws = ap (λ (l : List ℕ). le32 u ++ l) (words_append us ws)

-- a word stored at the seam of two lists
put_at : (p q : List ℕ) (n v : ℕ) → length p ≡ n → splice n (le32 v) (p ++ q) ≡ p ++ (le32 v ++ drop 4 q)
unfolding splice
put_at p q n v e =
    ap (λ (t : List ℕ). t ++ (le32 v ++ drop (n + 4) (p ++ q))) (take_at p q n e)
    ∙ ap (λ (t : List ℕ). p ++ (le32 v ++ t)) (ap (λ (k : ℕ). drop (k + 4) (p ++ q)) (sym e) ∙ drop-append-add p q 4)

-- a turn of the loop that stores words from the front
pub put_more : (ws l : List ℕ) (i : ℕ) → i < length ws
    → splice (i * 4) (le32 (get_or ws i 0)) (words_bytes (take i ws) ++ drop (4 * i) l) ≡ words_bytes (take (i + 1) ws) ++ drop (4 * (i + 1)) l
put_more ws l i h =
    let a : length (words_bytes (take i ws)) ≡ i * 4 = omega (arith, length_words (take i ws), length-take-le i ws (omega arith)) in
    let s : 4 * i + 4 ≡ 4 * (i + 1) = omega arith in
    let w : words_bytes (take (i + 1) ws) ≡ words_bytes (take i ws) ++ le32 (get_or ws i 0) =
    ap (λ (k : ℕ). words_bytes (take k ws)) (add-one i) ∙ ap words_bytes (take-suc ws i 0 h) ∙ words_append (take i ws) (get_or ws i 0 ∷ []) in
    put_at (words_bytes (take i ws)) (drop (4 * i) l) (i * 4) (get_or ws i 0) a
    ∙ sym (append_assoc (words_bytes (take i ws)) (le32 (get_or ws i 0)) (drop 4 (drop (4 * i) l)))
    ∙ ap (λ (t : List ℕ). t ++ drop 4 (drop (4 * i) l)) (sym w)
    ∙ ap (λ (t : List ℕ). words_bytes (take (i + 1) ws) ++ t) (drop-drop 4 (4 * i) l ∙ ap (λ (k : ℕ). drop k l) s)

-- and its end
pub put_done : (ws l : List ℕ) (i : ℕ) → length ws ≤ i → length l ≡ 4 * length ws → words_bytes (take i ws) ++ drop (4 * i) l ≡ words_bytes ws
put_done ws l i h e =
    let short : length l ≤ 4 * i = omega arith in
    ap (λ (t : List ℕ). words_bytes t ++ drop (4 * i) l) (take_all i ws h) ∙ ap (λ (t : List ℕ). words_bytes ws ++ t) (drop_of_length-le l short) ∙ append-nil (words_bytes ws)
