-- Tests that compute: both, one or both, every or some number below n, a sum.
use Rattle.std.specs.Prelude.{Bool, true, false, ℕ, zero, suc, ◌+◌}

-- both; the second is not looked at where the first fails
infixr 30 ◌&◌
unfoldable pub ◌&◌ : Bool → Bool → Bool
true & b = b
false & b = false

-- one or both
infixr 25 ◌or◌
unfoldable pub ◌or◌ : Bool → Bool → Bool
true or b = true
false or b = b

abbrev pub choose : {A : Type 0} → Bool → A → A → A
choose true a b = a
choose false a b = b

-- every number below n passes
unfoldable pub all_below : ℕ → (ℕ → Bool) → Bool
all_below zero p = true
all_below (suc n) p = elim (all_below n p) [ true ↦ p n | false ↦ false ]

-- some number below n passes
unfoldable pub any_below : ℕ → (ℕ → Bool) → Bool
any_below zero p = false
any_below (suc n) p = elim (any_below n p) [ true ↦ true | false ↦ p n ]

-- the sum of f over the numbers below n
unfoldable pub sum_below : ℕ → (ℕ → ℕ) → ℕ
sum_below zero f = 0
sum_below (suc n) f = sum_below n f + f n
