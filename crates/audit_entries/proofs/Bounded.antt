-- Tests and sums over the numbers below one: of the same terms, of one number more, and of terms of nothing at the end.
use mathlib.Core.Bool.{Bool, true}
use mathlib.Core.Path.{ap, ap₂, refl, sym, ◌∙◌, ◌≡◌}
use Prim.Native.Nat.{◌+◌, ◌<◌, suc, zero, ℕ, ◌≤◌}
use native.Mathlib.Nat.{add-zero, le_step, lt-suc_self}
use native.Mathlib.Omega.{arith}
use Rattle.words.proofs.Tests.{all_at, all_more, all_of, iff}
use Rattle.words.specs.Tests.{all_below, sum_below}

pub all_agree : (n : ℕ) (p q : ℕ → Bool) → ((k : ℕ) → k < n → p k ≡ q k) → all_below n p ≡ all_below n q
all_agree n p q f =
    iff _ _ (λ h. all_of n q (λ k l. sym (f k l) ∙ all_at n p h k l)) (λ h. all_of n p (λ k l. f k l ∙ all_at n q h k l))

pub all_passed : (n : ℕ) (p : ℕ → Bool) → p n ≡ true → all_below n p ≡ all_below (suc n) p
all_passed n p e = iff _ _ (λ h. all_more n p h e) (λ h. all_of n p (λ k l. all_at (suc n) p h k (le_step l)))

pub all_both : (m k : ℕ) (p q : ℕ → Bool) → all_below m p ≡ all_below k q → p m ≡ q k → all_below (suc m) p ≡ all_below (suc k) q
all_both m k p q e f =
    iff _ _
    (λ h. all_more k q (sym e ∙ all_of m p (λ j l. all_at (suc m) p h j (le_step l))) (sym f ∙ all_at (suc m) p h m (lt-suc_self m)))
    (λ h. all_more m p (e ∙ all_of k q (λ j l. all_at (suc k) q h j (le_step l))) (f ∙ all_at (suc k) q h k (lt-suc_self k)))

pub sum_agree : (n : ℕ) (f g : ℕ → ℕ) → ((x : ℕ) → x < n → f x ≡ g x) → sum_below n f ≡ sum_below n g
unfolding sum_below
sum_agree zero f g e = refl
sum_agree (suc n) f g e = ap₂ (λ (x y : ℕ). x + y) (sum_agree n f g (λ x l. e x (le_step l))) (e n (lt-suc_self n))

pub sum_end : (m n : ℕ) (f : ℕ → ℕ) → ((x : ℕ) → n ≤ x → x < n + m → f x ≡ 0) → sum_below n f ≡ sum_below (n + m) f
unfolding sum_below
sum_end zero n f h = ap (λ (i : ℕ). sum_below i f) (sym (add-zero n))
sum_end (suc m) n f h =
    let e : suc (n + m) ≡ n + suc m = omega arith in
    omega (arith, sum_end m n f (λ x a l. h x a (omega arith)), h (n + m) (omega arith) (omega arith)) ∙ ap (λ (i : ℕ). sum_below i f) e
