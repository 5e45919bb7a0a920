-- Pieces of one length after each other, and words of zeros.
use mathlib.Core.Bool.{Bool}
use mathlib.Core.List.{List, [], ◌∷◌}
use mathlib.Core.Path.{◌≡◌, ap, ap₂, refl, sym, ◌∙◌}
use Prim.Native.Nat.{◌*◌, ◌+◌, suc, zero, ℕ, ◌≤◌}
use native.Mathlib.Omega.{arith}
use lib.Dec.{eqb}
use lib.ListN.{drop, get_or, length, length-replicate, replicate}
use lib.Seq.{drop-drop}
use Rattle.std.proofs.lemmas.List.{get_or-replicate}
use Rattle.audit_entries.proofs.Bounded.{all_agree}
use Rattle.state.proofs.Look.{listed_at, listed_length}
use Rattle.state.proofs.Zeros.{each_zeros}
use Rattle.state.specs.Bytes.{each, le32}
use Rattle.state.specs.Read.{listed, word_at}
use Rattle.words.specs.Tests.{◌&◌, all_below}
use Rattle.audit_bytes.specs.Clean.{zero_words}
use Rattle.audit_bytes.specs.Stands.{starts}
use Rattle.audit_bytes.proofs.Starts.{starts_append, starts_nil}
use Rattle.audit_bytes.proofs.Tests.{all_front}
use Rattle.audit_bytes.proofs.Words.{Bytes, word_stands}

module _ {A : Type 0} (g : A → List ℕ) (w : ℕ) (u : (x : A) → length (g x) ≡ w) (d : A) where
  pub starts_even : (xs : List A) (l : List ℕ) → starts (each g xs) l ≡ all_below (length xs) (λ i. starts (g (get_or xs i d)) (drop (w * i) l))
  unfolding all_below each
  starts_even [] l = starts_nil l
  starts_even (x ∷ xs) l =
      let z : 0 ≡ w * 0 = omega arith in
      starts_append (g x) (each g xs) l
      ∙ ap (λ (n : ℕ). starts (g x) l & starts (each g xs) (drop n l)) (u x)
      ∙ ap (λ (t : Bool). starts (g x) l & t) (starts_even xs (drop w l)
      ∙ all_agree (length xs) _ _ (λ k h. let q : w + w * k ≡ w * suc k = omega arith in ap (starts (g (get_or xs k d))) (drop-drop (w * k) w l ∙ ap (λ (n : ℕ). drop n l) q)))
      ∙ ap (λ (n : ℕ). starts (g x) (drop n l) & all_below (length xs) (λ i. starts (g (get_or xs i d)) (drop (w * suc i) l))) z
      ∙ sym (all_front (length xs) (λ i. starts (g (get_or (x ∷ xs) i d)) (drop (w * i) l)))

  -- the n pieces that a function of the index gives, from byte `at` on
  pub starts_listed : (n : ℕ) (f : ℕ → A) (l : List ℕ) (at : ℕ)
      → starts (each g (listed n f)) (drop at l) ≡ all_below n (λ i. starts (g (f i)) (drop (at + w * i) l))
  starts_listed n f l at =
      starts_even (listed n f) (drop at l)
      ∙ ap (λ (m : ℕ). all_below m (λ i. starts (g (get_or (listed n f) i d)) (drop (w * i) (drop at l)))) (listed_length n f)
      ∙ all_agree n _ _ (λ i h. ap₂ (λ (x : A) (y : List ℕ). starts (g x) y) (listed_at n f d i h) (drop-drop (w * i) at l))

-- ---- zeros
get_or_zeros : (n k : ℕ) → ◌≡◌ {A = ℕ} (get_or (replicate n 0) k 0) 0
get_or_zeros zero k = refl
get_or_zeros (suc n) zero = refl
get_or_zeros (suc n) (suc k) = get_or_zeros n k

module _ (l : List ℕ) (u : Bytes l) where
  pub zeros_stand : (at n : ℕ) → at + 4 * n ≤ length l → starts (replicate (4 * n) 0) (drop at l) ≡ zero_words l at n
  unfolding zero_words
  zeros_stand at n h =
      ap (λ (v : List ℕ). starts v (drop at l)) (sym (each_zeros le32 0 4 refl n))
      ∙ starts_even le32 4 (λ x. refl) 0 (replicate n 0) (drop at l)
      ∙ ap (λ (m : ℕ). all_below m (λ i. starts (le32 (get_or (replicate n 0) i 0)) (drop (4 * i) (drop at l)))) (length-replicate {A = ℕ} n 0)
      ∙ all_agree n _ _ (λ i k.
      ap₂ (λ (x : ℕ) (y : List ℕ). starts (le32 x) y) (get_or-replicate n i 0 0 k) (drop-drop (4 * i) at l)
      ∙ word_stands l u (at + 4 * i) 0 (omega arith) (omega arith))

-- the first word apart
pub zeros_front : (l : List ℕ) (at n : ℕ) → zero_words l at (suc n) ≡ (eqb (word_at l at) 0 & zero_words l (at + 4) n)
unfolding zero_words
zeros_front l at n =
    let z : at + 4 * 0 ≡ at = omega arith in
    all_front n (λ i. eqb (word_at l (at + 4 * i)) 0)
    ∙ ap₂ (λ (x y : Bool). x & y) (ap (λ (i : ℕ). eqb (word_at l i) 0) z)
    (all_agree n _ _ (λ i h. let q : at + 4 * suc i ≡ at + 4 + 4 * i = omega arith in ap (λ (j : ℕ). eqb (word_at l j) 0) q))
