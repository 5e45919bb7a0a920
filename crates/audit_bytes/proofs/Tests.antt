-- More laws of tests: both of three, the first and the last number apart, and tests of numbers that pass together.
use mathlib.Core.Bool.{Bool, false, true}
use mathlib.Core.Path.{ap, refl, sym, ◌∙◌, ◌≡◌}
use Rattle.std.proofs.lemmas.List.FromFn.{get_or-range_with_len, length-range_with_len}
use Rattle.std.specs.List.{range_with_len, AllWithin, HoldsAt}
use Rattle.std.specs.Prelude.{MatchBool}
use lib.ListN.{get_or, length}
use Prim.Native.Nat.{◌+◌, ◌<◌, suc, zero, ℕ}
use native.Mathlib.Numerals.{add-one}
use native.Mathlib.Omega.{arith}
use lib.Bits.{and_le_l, and_le_r, bit_or, or_add_and}
use lib.Dec.{eqb, ltb}
use borrow.Author.Tests.{eq-eqb, eqb-true, lt-ltb, ltb-true}
use Rattle.words.proofs.Tests.{all_at, all_more, all_not, all_of, and_both, and_left, and_right, iff}
use Rattle.words.specs.Tests.{◌&◌, all_below}

pub and_assoc : (a b c : Bool) → ((a & b) & c) ≡ (a & (b & c))
unfolding ◌&◌
and_assoc true b c = refl
and_assoc false b c = refl

pub and_swap : (a b c : Bool) → (a & (b & c)) ≡ (b & (c & a))
unfolding ◌&◌
and_swap true true true = refl
and_swap true true false = refl
and_swap true false c = refl
and_swap false true true = refl
and_swap false true false = refl
and_swap false false c = refl

pub all_front : (n : ℕ) (p : ℕ → Bool) → all_below (suc n) p ≡ (p 0 & all_below n (λ k. p (suc k)))
all_front n p =
    iff _ _
    (λ h. and_both _ _ (all_at (suc n) p h 0 (omega arith)) (all_of n _ (λ k l. all_at (suc n) p h (suc k) (omega arith))))
    (λ h. all_of (suc n) p (λ k l. pick k l (and_left _ _ h) (and_right _ _ h)))
  where
    pick : (k : ℕ) → k < suc n → p 0 ≡ true → all_below n (λ i. p (suc i)) ≡ true → p k ≡ true
    pick zero l a b = a
    pick (suc k) l a b = all_at n _ b k (omega arith)

-- ---- tests of numbers that pass together
pub eqb_ltb : (w v n : ℕ) → (w ≡ v → w < n) → (w < n → w ≡ v) → eqb w v ≡ ltb w n
eqb_ltb w v n f g = iff _ _ (λ h. lt-ltb w n (f (eqb-true w v h))) (λ h. eq-eqb w v (g (ltb-true w n h)))

pub eqb_self : (w : ℕ) → eqb w w ≡ true
eqb_self w = eq-eqb w w refl

pub and_end : (a b : Bool) → b ≡ true → (a & b) ≡ a
unfolding ◌&◌
and_end true b h = h
and_end false b h = refl

-- ---- a number joined bit by bit is 0 where both are
pub or_zero : (a b : ℕ) → eqb (bit_or a b) 0 ≡ (eqb a 0 & eqb b 0)
or_zero a b =
    iff _ _
    (λ h. let e : bit_or a b ≡ 0 = eqb-true _ _ h in and_both _ _ (eq-eqb a 0 (omega (arith, or_add_and a b, and_le_r a b))) (eq-eqb b 0 (omega (arith, or_add_and a b, and_le_l a b))))
    (λ h. let x : a ≡ 0 = eqb-true a 0 (and_left _ _ h) in let y : b ≡ 0 = eqb-true b 0 (and_right _ _ h) in eq-eqb (bit_or a b) 0 (omega (arith, or_add_and a b)))

pub all_back : (n : ℕ) (p : ℕ → Bool) → all_below (suc n) p ≡ (all_below n p & p n)
all_back n p =
    iff _ _
    (λ h. and_both _ _ (all_of n p (λ k l. all_at (suc n) p h k (omega arith))) (all_at (suc n) p h n (omega arith)))
    (λ h. all_more n p (and_left _ _ h) (and_right _ _ h))

-- ---- what `all` over the numbers below n answers
pub all_ranged : (n : ℕ) (p : ℕ → Bool) (r : Bool)
    → MatchBool r (AllWithin (λ k. p k ≡ true) (range_with_len 0 n) 0 (length (range_with_len 0 n)))
    ((k : ℕ) × (k < length (range_with_len 0 n)) × HoldsAt (λ k. p k ≡ false) (range_with_len 0 n) k)
    → r ≡ all_below n p
all_ranged n p true h =
    sym (all_of n p (λ k l.
    let e : get_or (range_with_len 0 n) k 0 ≡ k = omega (arith, get_or-range_with_len 0 n k 0 l) in
    ap p (sym e) ∙ h k 0 (omega arith) (omega (arith, length-range_with_len 0 n))))
all_ranged n p false h =
    let l : h.0 < n = omega (arith, h.1, length-range_with_len 0 n) in
    let e : get_or (range_with_len 0 n) h.0 0 ≡ h.0 = omega (arith, get_or-range_with_len 0 n h.0 0 l) in
    sym (all_not n p h.0 l (ap p (sym e) ∙ h.2 0))

-- ---- a walk over the numbers below n: one passed more, and one that fails
pub all_next : (n : ℕ) (p : ℕ → Bool) → all_below n p ≡ true → p n ≡ true → all_below (n + 1) p ≡ true
all_next n p h e = rw (add-one n) (all_more n p h e)

pub all_stopped : (n : ℕ) (p : ℕ → Bool) (k : ℕ) → k < n → p k ≡ false → false ≡ all_below n p
all_stopped n p k l e = sym (all_not n p k l e)
