-- Lists made of pieces: where a piece starts, and what replacing pieces does to the whole. One law serves every write.
use mathlib.Core.Path.{◌≡◌, refl, sym, ◌∙◌, ap}
use mathlib.Core.List.{List, [], ◌∷◌, ◌++◌, append_assoc, append-nil}
use Prim.Native.Nat.{ℕ, zero, suc, ◌+◌, ◌*◌, ◌<◌, ◌≤◌}
use native.Mathlib.Nat.{add_assoc, zero-add, add-zero, not-suc-le-zero, le_of_suc-le-suc, le_of_lt}
use native.Mathlib.Omega.{arith}
use lib.ListN.{length, get_or, take, drop, set, length-append, length-take, length-drop, take-append-drop}
use lib.Seq.{take-append-le, drop-append-le, take-append-add, drop-append-add, drop-drop, drop-length, length-take-le, drop_at, take-append_seam}
use Rattle.state.specs.State.{splice}
use Rattle.state.specs.Bytes.{each}

-- ---- a part replaced
-- behind a front
pub splice_right : {A : Type 0} (a b v : List A) (n : ℕ) → splice (length a + n) v (a ++ b) ≡ a ++ splice n v b
unfolding splice
splice_right a b v n = simp (take-append-add, add_assoc, drop-append-add, append_assoc)

-- in the front
pub splice_left : {A : Type 0} (a b v : List A) (n : ℕ) → n + length v ≤ length a → splice n v (a ++ b) ≡ splice n v a ++ b
unfolding splice
splice_left a b v n h =
    let h₁ : n ≤ length a = omega arith in
    simp (take-append-le n a b h₁, drop-append-le (n + length v) a b h, append_assoc)

pub length_splice : {A : Type 0} (l v : List A) (n : ℕ) → n + length v ≤ length l → length (splice n v l) ≡ length l
unfolding splice
length_splice l v n h = simp (length-append, length-take, length-drop) (omega arith)

-- all of a list replaced
pub splice_all : {A : Type 0} (v l : List A) → length v ≡ length l → splice 0 v l ≡ v
unfolding splice
splice_all {A} v l e = ap (λ (r : List A). v ++ r) (ap (λ (n : ℕ). drop n l) (zero-add (length v) ∙ e) ∙ drop-length l) ∙ append-nil v

-- the form in which a part that was lent comes back
pub splice_lent : {A : Type 0} (l v : List A) (n k : ℕ) → length v ≡ k → take n l ++ (v ++ drop k (drop n l)) ≡ splice n v l
unfolding splice
splice_lent {A} l v n k e = ap (λ (t : List A). take n l ++ (v ++ t)) (drop-drop k n l ∙ ap (λ (i : ℕ). drop (n + i) l) (sym e))

-- ---- pieces f x, one after the other
-- where the k-th piece starts
abbrev pub offset : {A : Type 0} → (A → List ℕ) → List A → ℕ → ℕ
offset f xs k = length (each f (take k xs))

module _ {A : Type 0} (f : A → List ℕ) where
  pub each_append : (a b : List A) → each f (a ++ b) ≡ each f a ++ each f b
  unfolding each
  each_append [] b = refl
  each_append (x ∷ a) b = ap (λ (r : List ℕ). f x ++ r) (each_append a b) ∙ sym (append_assoc (f x) (each f a) (each f b))

  -- the k-th piece, and what follows it
  pub each_drop : (d : A) (xs : List A) (k : ℕ) → k < length xs → drop (offset f xs k) (each f xs) ≡ f (get_or xs k d) ++ each f (drop (suc k) xs)
  unfolding each
  each_drop d [] k h = absurd (not-suc-le-zero h)
  each_drop d (x ∷ xs) zero h = refl
  each_drop d (x ∷ xs) (suc k) h =
      ap (λ (n : ℕ). drop n (f x ++ each f xs)) (length-append (f x) (each f (take k xs)))
      ∙ drop-append-add (f x) (each f xs) (offset f xs k)
      ∙ each_drop d xs k (le_of_suc-le-suc h)

  pub offset_fits : (d : A) (xs : List A) (k : ℕ) → k < length xs → offset f xs k + length (f (get_or xs k d)) ≤ length (each f xs)
  unfolding each
  offset_fits d [] k h = absurd (not-suc-le-zero h)
  offset_fits d (x ∷ xs) zero h = omega (arith, length-append (f x) (each f xs))
  offset_fits d (x ∷ xs) (suc k) h =
      omega (arith, length-append (f x) (each f xs), length-append (f x) (each f (take k xs)), offset_fits d xs k (le_of_suc-le-suc h))

  -- a piece that stays
  pub each_same : (d o : A) (xs : List A) (k : ℕ) → f o ≡ f (get_or xs k d) → each f (set xs k o) ≡ each f xs
  unfolding each
  each_same d o [] k e = refl
  each_same d o (x ∷ xs) zero e = ap (λ (r : List ℕ). r ++ each f xs) e
  each_same d o (x ∷ xs) (suc k) e = ap (λ (r : List ℕ). f x ++ r) (each_same d o xs k e)

  -- one piece, in which a part is replaced
  pub put_law : (d o : A) (v : List ℕ) (n : ℕ) (xs : List A) (k : ℕ) → k < length xs → n + length v ≤ length (f (get_or xs k d)) → f o ≡ splice n v (f (get_or xs k d))
      → each f (set xs k o) ≡ splice (offset f xs k + n) v (each f xs)
  unfolding each
  put_law d o v n [] k hk hn e = absurd (not-suc-le-zero hk)
  put_law d o v n (x ∷ xs) zero hk hn e = rw (zero-add n) (ap (λ (r : List ℕ). r ++ each f xs) e ∙ sym (splice_left (f x) (each f xs) v n hn))
  put_law d o v n (x ∷ xs) (suc k) hk hn e =
      ap (λ (r : List ℕ). f x ++ r) (put_law d o v n xs k (le_of_suc-le-suc hk) hn e)
      ∙ sym (splice_right (f x) (each f xs) v (offset f xs k + n))
      ∙ ap (λ (i : ℕ). splice i v (f x ++ each f xs))
      (sym (add_assoc (length (f x)) (offset f xs k) n) ∙ ap (λ (i : ℕ). i + n) (sym (length-append (f x) (each f (take k xs)))))

  -- whole pieces replaced by others that take as many bytes together
  pub run_law : (k : ℕ) (ys xs : List A) → length (each f ys) ≡ length (each f (take (length ys) (drop k xs)))
      → each f (splice k ys xs) ≡ splice (offset f xs k) (each f ys) (each f xs)
  unfolding splice
  run_law k ys xs e =
      let m : ℕ = length ys in
      let front : List ℕ = each f (take k xs) in
      let mid : List ℕ = each f (take m (drop k xs)) in
      let rear : List ℕ = each f (drop (k + m) xs) in
      let v : List ℕ = each f ys in
      let whole : each f xs ≡ front ++ (mid ++ rear) =
      ap (each f) (sym (take-append-drop k xs)) ∙ each_append (take k xs) (drop k xs)
      ∙ ap (λ (r : List ℕ). front ++ r)
      (ap (each f) (sym (take-append-drop m (drop k xs))) ∙ each_append (take m (drop k xs)) (drop m (drop k xs))
      ∙ ap (λ (r : List A). mid ++ each f r) (drop-drop m k xs)) in
      let cut : splice (length front) v (front ++ (mid ++ rear)) ≡ front ++ (v ++ rear) =
      simp (take-append_seam front (mid ++ rear), drop-append-add front (mid ++ rear) (length v), drop_at mid rear (length v) (sym e)) in
      each_append (take k xs) (ys ++ drop (k + m) xs)
      ∙ ap (λ (r : List ℕ). front ++ r) (each_append ys (drop (k + m) xs))
      ∙ sym cut
      ∙ ap (λ (r : List ℕ). splice (length front) v r) (sym whole)

-- ---- pieces of one length w
module _ {A : Type 0} (f : A → List ℕ) (w : ℕ) (u : (x : A) → length (f x) ≡ w) where
  pub even_length : (xs : List A) → length (each f xs) ≡ w * length xs
  unfolding each
  even_length [] = omega arith
  even_length (x ∷ xs) = simp length-append (omega (arith, u x, even_length xs))

  pub even_offset : (xs : List A) (k : ℕ) → k ≤ length xs → offset f xs k ≡ w * k
  even_offset xs k h = even_length (take k xs) ∙ ap (λ (n : ℕ). w * n) (length-take-le k xs h)

  -- one of them replaced
  pub even_put : (d o : A) (xs : List A) (k : ℕ) → k < length xs → each f (set xs k o) ≡ splice (w * k) (f o) (each f xs)
  even_put d o xs k h =
      put_law f d o (f o) 0 xs k h (omega (arith, u o, u (get_or xs k d))) (sym (splice_all (f o) (f (get_or xs k d)) (u o ∙ sym (u (get_or xs k d)))))
      ∙ ap (λ (i : ℕ). splice i (f o) (each f xs)) (add-zero (offset f xs k) ∙ even_offset xs k (le_of_lt h))

  -- the k-th of them, with something behind
  pub even_drop : (d : A) (xs : List A) (rest : List ℕ) (k : ℕ) → k < length xs → drop (w * k) (each f xs ++ rest) ≡ f (get_or xs k d) ++ (each f (drop (suc k) xs) ++ rest)
  even_drop d xs rest k h =
      let e : offset f xs k ≡ w * k = even_offset xs k (le_of_lt h) in
      let fits : w * k ≤ length (each f xs) = omega (arith, offset_fits f d xs k h, e) in
      drop-append-le (w * k) (each f xs) rest fits
      ∙ ap (λ (r : List ℕ). r ++ rest) (ap (λ (n : ℕ). drop n (each f xs)) (sym e) ∙ each_drop f d xs k h)
      ∙ append_assoc (f (get_or xs k d)) (each f (drop (suc k) xs)) rest
