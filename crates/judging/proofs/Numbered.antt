-- A number other than 1 to 20 is no call.
use mathlib.Core.Path.{refl, ◌≡◌}
use Prim.Native.Nat.{◌+◌, suc, zero, ℕ, ◌≤◌}
use native.Mathlib.Omega.{arith}
use lib.ListN.{get_or-eq_default}
use Rattle.rules.specs.Calls.{call_of, call_table, no_call}

far : (n : ℕ) → 21 ≤ n → call_of n ≡ no_call
far n h = get_or-eq_default call_table no_call {n = n} (omega arith)

three : (n m : ℕ) → m ≤ n → (n ≡ m → ⊥) → (n ≡ m + 1 → ⊥) → (n ≡ m + 2 → ⊥) → m + 3 ≤ n
three n m l a b c = omega arith

-- what the last arm of a match on the numbers 1 to 20 knows, in the order in which it is known
abbrev pub NoneOf : ℕ → ℕ → Type 0
NoneOf n zero = Unit {0}
NoneOf n (suc k) = NoneOf n k × (n ≡ suc k → ⊥)

pub past_twenty : (n : ℕ) → NoneOf n 20 → 1 ≤ n → 21 ≤ n
past_twenty n r one =
    let f = r.0.0 in
    let a₁ = three n 1 one f.0.0.0.0.0.0.0.0.0.0.0.0.0.0.0.0.0.1 f.0.0.0.0.0.0.0.0.0.0.0.0.0.0.0.0.1 f.0.0.0.0.0.0.0.0.0.0.0.0.0.0.0.1 in
    let a₂ = three n 4 a₁ f.0.0.0.0.0.0.0.0.0.0.0.0.0.0.1 f.0.0.0.0.0.0.0.0.0.0.0.0.0.1 f.0.0.0.0.0.0.0.0.0.0.0.0.1 in
    let a₃ = three n 7 a₂ f.0.0.0.0.0.0.0.0.0.0.0.1 f.0.0.0.0.0.0.0.0.0.0.1 f.0.0.0.0.0.0.0.0.0.1 in
    let a₄ = three n 10 a₃ f.0.0.0.0.0.0.0.0.1 f.0.0.0.0.0.0.0.1 f.0.0.0.0.0.0.1 in
    let a₅ = three n 13 a₄ f.0.0.0.0.0.1 f.0.0.0.0.1 f.0.0.0.1 in
    let a₆ = three n 16 a₅ f.0.0.1 f.0.1 f.1 in
    let l : n ≡ 19 → ⊥ = r.0.1 in
    let t : n ≡ 20 → ⊥ = r.1 in
    omega (arith, a₆)

pub no_call_lem : (n : ℕ) → NoneOf n 20 → call_of n ≡ no_call
no_call_lem zero r = refl
no_call_lem (suc n) r = far (suc n) (past_twenty (suc n) r (omega arith))
