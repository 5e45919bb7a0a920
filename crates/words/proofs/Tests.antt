-- From tests to facts and back: what each connective shows where it passes, and what makes it pass.
use mathlib.Core.Path.{◌≡◌, refl, sym, ◌∙◌, ap, ap₂, fun_ext}
use mathlib.Core.Bool.{Bool, true, false, not, false≢true}
use mathlib.Core.Logic.{◌⊎◌, inl, inr, ◌≢◌}
use Prim.Native.Nat.{ℕ, zero, suc, ◌+◌, ◌<◌, ◌≤◌}
use native.Mathlib.Decide.{ℕ_discrete}
use native.Mathlib.Omega.{arith}
use native.Mathlib.Nat.{not-suc-le-zero, le_of_suc-le-suc, eq-or-lt_of_le, lt-suc_self, le_step}
use Rattle.words.specs.Tests.{◌&◌, ◌or◌, all_below, any_below, sum_below}

pub and_left : (a b : Bool) → (a & b) ≡ true → a ≡ true
unfolding ◌&◌
and_left true b h = refl
and_left false b h = h

pub and_right : (a b : Bool) → (a & b) ≡ true → b ≡ true
unfolding ◌&◌
and_right true b h = h
and_right false b h = absurd (false≢true h)

pub and_both : (a b : Bool) → a ≡ true → b ≡ true → (a & b) ≡ true
unfolding ◌&◌
and_both true b h k = k
and_both false b h k = h

pub not_false : (a : Bool) → not a ≡ true → a ≡ false
not_false true h = absurd (false≢true h)
not_false false h = refl

pub or_false : (a b : Bool) → (a or b) ≡ false → (a ≡ false) × (b ≡ false)
unfolding ◌or◌
or_false true b h = absurd (false≢true (sym h))
or_false false b h = (refl, h)

-- the steps of a check that tests one thing after the other
pub and_no : (a b : Bool) → a ≡ false → (a & b) ≡ false
unfolding ◌&◌
and_no a b p = rw p

pub and_yes : (a b : Bool) → a ≡ true → (a & b) ≡ b
unfolding ◌&◌
and_yes a b p = rw p

-- two tests that pass together are equal
pub iff : (a b : Bool) → (a ≡ true → b ≡ true) → (b ≡ true → a ≡ true) → a ≡ b
iff true b f g = sym (f refl)
iff false true f g = g refl
iff false false f g = refl

-- ---- bounded tests
all_last : (n : ℕ) (p : ℕ → Bool) → all_below (suc n) p ≡ true → p n ≡ true
unfolding all_below
all_last n p = go (all_below n p) refl
  where
    go : (b : Bool) → all_below n p ≡ b → all_below (suc n) p ≡ true → p n ≡ true
    go true e h = rw e at h
    go false e h = absurd (false≢true (rw e at h))

all_init : (n : ℕ) (p : ℕ → Bool) → all_below (suc n) p ≡ true → all_below n p ≡ true
unfolding all_below
all_init n p = go (all_below n p) refl
  where
    go : (b : Bool) → all_below n p ≡ b → all_below (suc n) p ≡ true → all_below n p ≡ true
    go true e h = e
    go false e h = absurd (false≢true (rw e at h))

pub all_at : (n : ℕ) (p : ℕ → Bool) → all_below n p ≡ true → (k : ℕ) → k < n → p k ≡ true
unfolding all_below
all_at zero p e k h = absurd (not-suc-le-zero h)
all_at (suc n) p e k h = pick (all_at n p (all_init n p e) k) (eq-or-lt_of_le (le_of_suc-le-suc h))
  where
    pick : (k < n → p k ≡ true) → (k ≡ n) ⊎ (k < n) → p k ≡ true
    pick rest (inl q) = rw q (all_last n p e)
    pick rest (inr l) = rest l

pub all_of : (n : ℕ) (p : ℕ → Bool) → ((k : ℕ) → k < n → p k ≡ true) → all_below n p ≡ true
unfolding all_below
all_of zero p f = refl
all_of (suc n) p f = rw (all_of n p (λ k h. f k (le_step h))) (f n (lt-suc_self n))

pub all_same : (n : ℕ) (p q : ℕ → Bool) → ((x : ℕ) → p x ≡ q x) → all_below n p ≡ all_below n q
all_same n p q f = ap (all_below n) (fun_ext f)

any_last : (n : ℕ) (p : ℕ → Bool) → any_below (suc n) p ≡ false → p n ≡ false
unfolding any_below
any_last n p = go (any_below n p) refl
  where
    go : (b : Bool) → any_below n p ≡ b → any_below (suc n) p ≡ false → p n ≡ false
    go true e h = absurd (false≢true (sym (rw e at h)))
    go false e h = rw e at h

any_init : (n : ℕ) (p : ℕ → Bool) → any_below (suc n) p ≡ false → any_below n p ≡ false
unfolding any_below
any_init n p = go (any_below n p) refl
  where
    go : (b : Bool) → any_below n p ≡ b → any_below (suc n) p ≡ false → any_below n p ≡ false
    go true e h = absurd (false≢true (sym (rw e at h)))
    go false e h = e

pub any_none : (n : ℕ) (p : ℕ → Bool) → any_below n p ≡ false → (k : ℕ) → k < n → p k ≡ false
unfolding any_below
any_none zero p e k h = absurd (not-suc-le-zero h)
any_none (suc n) p e k h = pick (any_none n p (any_init n p e) k) (eq-or-lt_of_le (le_of_suc-le-suc h))
  where
    pick : (k < n → p k ≡ false) → (k ≡ n) ⊎ (k < n) → p k ≡ false
    pick rest (inl q) = rw q (any_last n p e)
    pick rest (inr l) = rest l

pub sum_same : (n : ℕ) (f g : ℕ → ℕ) → ((x : ℕ) → f x ≡ g x) → sum_below n f ≡ sum_below n g
sum_same n f g e = ap (sum_below n) (fun_ext e)

-- a sum of which one term grows
pub sum_more : (n : ℕ) (f g : ℕ → ℕ) (i a : ℕ) → i < n → f i ≡ g i + a → ((x : ℕ) → x ≢ i → f x ≡ g x) → sum_below n f ≡ sum_below n g + a
unfolding sum_below
sum_more zero f g i a h e s = absurd (not-suc-le-zero h)
sum_more (suc n) f g i a h e s = pick (λ l. sum_more n f g i a l e s) (ℕ_discrete n i)
  where
    below : (m : ℕ) → m ≤ i → sum_below m f ≡ sum_below m g
    below zero l = refl
    below (suc m) l = ap₂ (λ (x y : ℕ). x + y) (below m (omega arith)) (s m (λ q. omega arith))

    pick : (i < n → sum_below n f ≡ sum_below n g + a) → Dec (n ≡ i) → sum_below n f + f n ≡ sum_below n g + g n + a
    pick ih (yes q) = let z : f n ≡ g n + a = rw q e in omega (arith, below n (omega arith))
    pick ih (no d) = omega (arith, ih (omega arith), s n d)

pub sum_zero : (n : ℕ) (f : ℕ → ℕ) → ((x : ℕ) → x < n → f x ≡ 0) → sum_below n f ≡ 0
unfolding sum_below
sum_zero zero f h = refl
sum_zero (suc n) f h = omega (arith, sum_zero n f (λ x l. h x (le_step l)), h n (lt-suc_self n))

-- a term is at most the sum, and two terms are
pub sum_part : (n : ℕ) (f : ℕ → ℕ) (i : ℕ) → i < n → f i ≤ sum_below n f
unfolding sum_below
sum_part zero f i h = absurd (not-suc-le-zero h)
sum_part (suc n) f i h = pick (sum_part n f i) (ℕ_discrete n i)
  where
    pick : (i < n → f i ≤ sum_below n f) → Dec (n ≡ i) → f i ≤ sum_below n f + f n
    pick ih (yes q) = rw (← q) (omega arith)
    pick ih (no d) = omega (arith, ih (omega arith))

pub sum_two : (n : ℕ) (f : ℕ → ℕ) (i j : ℕ) → i < n → j < n → i ≢ j → f i + f j ≤ sum_below n f
unfolding sum_below
sum_two zero f i j h k d = absurd (not-suc-le-zero h)
sum_two (suc n) f i j h k d = pick (λ a b. sum_two n f i j a b d) (ℕ_discrete n i) (ℕ_discrete n j)
  where
    pick : (i < n → j < n → f i + f j ≤ sum_below n f) → Dec (n ≡ i) → Dec (n ≡ j) → f i + f j ≤ sum_below n f + f n
    pick ih (yes p) (yes q) = absurd (d (sym p ∙ q))
    pick ih (yes p) (no q) = rw (← p) (omega (arith, sum_part n f j (omega arith)))
    pick ih (no p) (yes q) = rw (← q) (omega (arith, sum_part n f i (omega arith)))
    pick ih (no p) (no q) = omega (arith, ih (omega arith) (omega arith))

-- the loop of a check: where one place fails the whole fails, and one more that passes
pub all_not : (n : ℕ) (p : ℕ → Bool) (k : ℕ) → k < n → p k ≡ false → all_below n p ≡ false
all_not n p k h e = go (all_below n p) refl
  where
    go : (b : Bool) → all_below n p ≡ b → all_below n p ≡ false
    go true q = absurd (false≢true (sym e ∙ all_at n p q k h))
    go false q = q

pub all_zero : (p : ℕ → Bool) → all_below 0 p ≡ true
unfolding all_below
all_zero p = refl

pub all_more : (n : ℕ) (p : ℕ → Bool) → all_below n p ≡ true → p n ≡ true → all_below (suc n) p ≡ true
unfolding all_below
all_more n p e h = rw e h

-- the loop of a search: none so far, one more that is not it, and the first one found
pub any_zero : (p : ℕ → Bool) → any_below 0 p ≡ false
unfolding any_below
any_zero p = refl

pub any_more : (n : ℕ) (p : ℕ → Bool) → any_below n p ≡ false → p n ≡ false → any_below (suc n) p ≡ false
unfolding any_below
any_more n p e h = rw e h

pub any_found : (n : ℕ) (p : ℕ → Bool) (k : ℕ) → k < n → p k ≡ true → any_below n p ≡ true
any_found n p k h e = go (any_below n p) refl
  where
    go : (b : Bool) → any_below n p ≡ b → any_below n p ≡ true
    go true q = q
    go false q = absurd (false≢true (sym (any_none n p q k h) ∙ e))
