-- Chains with a bound: N steps are enough for N places, since a chain that reaches a root passes no place twice.
use mathlib.Core.Bool.{Bool, false, false≢true, true}
use mathlib.Core.List.{List, [], ◌∷◌}
use mathlib.Core.Path.{◌≡◌, ap, refl, subst, sym, ◌∙◌}
use Prim.Native.Nat.{◌+◌, ◌<◌, suc, zero, ℕ, ◌≤◌}
use native.Mathlib.Decide.{dec_lt, ℕ_discrete}
use native.Mathlib.Nat.{le_of_suc-le-suc, le_refl, not-suc-le-zero}
use native.Mathlib.Numerals.{add-two}
use native.Mathlib.Omega.{arith}
use lib.ListN.{get_or, length, length-replicate, length-set, replicate, set}
use lib.Seq.{get_or-set_other}
use Rattle.state.proofs.Zeros.{copies}
use Rattle.rules.proofs.Chain.{Leads, Reaches, child, here, no_cycle, root, snoc, used_of}

-- ---- how many marks are not yet made
abbrev pub zeros : List ℕ → ℕ
zeros [] = 0
zeros (zero ∷ l) = suc (zeros l)
zeros (suc n ∷ l) = zeros l

pub zeros_fall : (l : List ℕ) (x v : ℕ) → x < length l → get_or l x 0 ≡ 0 → 0 < v → zeros (set l x v) < zeros l
zeros_fall [] x v h z p = absurd (not-suc-le-zero h)
zeros_fall (a ∷ l) x zero h z p = absurd (not-suc-le-zero p)
zeros_fall (zero ∷ l) zero (suc v) h z p = le_refl _
zeros_fall (suc n ∷ l) zero (suc v) h z p = absurd (omega arith)
zeros_fall (zero ∷ l) (suc x) (suc v) h z p = let k = zeros_fall l x (suc v) (le_of_suc-le-suc h) z p in omega arith
zeros_fall (suc n ∷ l) (suc x) (suc v) h z p = zeros_fall l x (suc v) (le_of_suc-le-suc h) z p

zeros_blank : (n : ℕ) → zeros (replicate n 0) ≡ n
zeros_blank zero = refl
zeros_blank (suc n) = ap suc (zeros_blank n)

-- ---- the test with n steps
abbrev pub onward : ℕ → (ℕ → Bool) → Bool
onward zero k = false
onward (suc zero) k = true
onward (suc (suc p)) k = k p

abbrev pub within : (ℕ → ℕ) → ℕ → ℕ → Bool
within f zero e = false
within f (suc n) e = onward (f e) (within f n)

module _ (f : ℕ → ℕ) where
  pub within_reaches : (n e : ℕ) → within f n e ≡ true → Reaches f e
  within_reaches zero e t = absurd (false≢true t)
  within_reaches (suc n) e t = go (λ p. within_reaches n p) (f e) refl t
    where
      go : ((p : ℕ) → within f n p ≡ true → Reaches f p) → (a : ℕ) → f e ≡ a → onward a (within f n) ≡ true → Reaches f e
      go ih zero w u = absurd (false≢true u)
      go ih (suc zero) w u = root w
      go ih (suc (suc p)) w u = child (w ∙ sym (add-two p)) (ih p u)

  more : (n m e : ℕ) → n ≤ m → within f n e ≡ true → within f m e ≡ true
  more zero m e l t = absurd (false≢true t)
  more (suc n) zero e l t = absurd (not-suc-le-zero l)
  more (suc n) (suc m) e l t = go (λ p. more n m p (le_of_suc-le-suc l)) (f e) refl t
    where
      go : ((p : ℕ) → within f n p ≡ true → within f m p ≡ true) → (a : ℕ) → f e ≡ a → onward a (within f n) ≡ true → onward (f e) (within f m) ≡ true
      go ih zero w u = absurd (false≢true u)
      go ih (suc zero) w u = rw w
      go ih (suc (suc p)) w u = rw w (ih p u)

  -- ---- a mark for each place that the chain has passed: a next one is a new one
  module _ (N : ℕ) (past : (y : ℕ) → N ≤ y → f y ≡ 0) where
    abbrev Passed : List ℕ → ℕ → Type 0
    Passed v y = (z : ℕ) → (get_or v z 0 ≡ 0 → ⊥) → Leads f z y

    pub inside : (y : ℕ) → Reaches f y → y < N
    inside y r = elim (dec_lt y N) [ yes h ↦ h | no h ↦ absurd (used_of f y r (past y (omega arith))) ]

    room : (v : List ℕ) (y : ℕ) → length v ≡ N → Passed v y → Reaches f y → zeros (set v y 1) < zeros v
    room v y l m r =
        zeros_fall v y 1 (omega (arith, inside y r)) (elim (ℕ_discrete (get_or v y 0) 0) [ yes h ↦ h | no h ↦ absurd (no_cycle f y r (m y h)) ])
        (omega arith)

    passed : (v : List ℕ) (y p : ℕ) → f y ≡ p + 2 → Passed v y → Passed (set v y 1) p
    passed v y p h m z u = elim (ℕ_discrete z y) [
      | yes w ↦ record { next = p; edge = rw w h; rest = here refl }
      | no w ↦ let k = m z (λ q. u (get_or-set_other v y z 1 0 w ∙ q)) in record { next = k.next; edge = k.edge; rest = snoc f k.next y p k.rest h }
    ]

    enough_from : (y : ℕ) → Reaches f y → (v : List ℕ) → length v ≡ N → Passed v y → within f (zeros v) y ≡ true
    enough_from y (root h) v l m = more (suc (zeros (set v y 1))) (zeros v) y (room v y l m (root h)) (rw h refl)
    enough_from y (child {p = p} h r) v l m =
        more (suc (zeros (set v y 1))) (zeros v) y (room v y l m (child h r))
        (rw (h, add-two p) (enough_from p r (set v y 1) (length-set v y 1 ∙ l) (passed v y p h m)))

    pub enough : (y : ℕ) → Reaches f y → within f N y ≡ true
    enough y r =
        subst (λ (k : ℕ). within f k y ≡ true) (zeros_blank N)
        (enough_from y r (replicate N 0) (length-replicate {A = ℕ} N 0) (λ z u. absurd (u (copies N z 0))))
