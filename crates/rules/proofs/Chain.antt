-- "its parent chain reaches a root", with no bound on the steps, over the code of each place (specs/Chains.antt); and what lies on a chain.
use mathlib.Core.Path.{refl, subst, sym, ◌∙◌, ◌≡◌}
use Prim.Native.Nat.{◌+◌, ℕ}
use native.Mathlib.Omega.{arith}

pub data Reaches (f : ℕ → ℕ) : ℕ → Type 0 where
  root : {e : ℕ} → f e ≡ 1 → Reaches f e
  child : {e p : ℕ} → f e ≡ p + 2 → Reaches f p → Reaches f e

-- x lies on y's chain, perhaps y itself
pub data To (f : ℕ → ℕ) : ℕ → ℕ → Type 0 where
  here : {y x : ℕ} → y ≡ x → To f y x
  step : {y x p : ℕ} → f y ≡ p + 2 → To f p x → To f y x

-- and after one step at least
pub record Leads (f : ℕ → ℕ) (y x : ℕ) : Type 0 where
  pub next : ℕ
  pub edge : f y ≡ next + 2
  pub rest : To f next x

module _ (f : ℕ → ℕ) where
  pub used_of : (y : ℕ) → Reaches f y → f y ≡ 0 → ⊥
  used_of y (root h) z = omega arith
  used_of y (child h r) z = omega arith

  pub parent_of : (y p : ℕ) → f y ≡ p + 2 → Reaches f y → Reaches f p
  parent_of y p h (root g) = absurd (omega arith)
  parent_of y p h (child {p = q} g r) = let e : q ≡ p = omega arith in subst (Reaches f) e r

  pub snoc : (y x q : ℕ) → To f y x → f x ≡ q + 2 → To f y q
  snoc y x q (here e) g = step {y = y} {p = q} (rw e g) (here refl)
  snoc y x q (step {p = p} h t) g = step h (snoc p x q t g)

  pub back : (y x : ℕ) → To f y x → Reaches f x → Reaches f y
  back y x (here e) r = rw e r
  back y x (step {p = p} h t) r = child h (back p x t r)

  -- a chain that comes back to where it was reaches no root
  pub no_cycle : (z : ℕ) → Reaches f z → Leads f z z → ⊥
  no_cycle z (root h) l = let g = l.edge in omega arith
  no_cycle z (child {p = p} h r) l = no_cycle p r (turn l.next l.rest (let g = l.edge in omega arith))
    where
      turn : (q : ℕ) → To f q z → q ≡ p → Leads f p p
      turn q (here e) w = record { next = p; edge = subst (λ (k : ℕ). f k ≡ p + 2) (sym e ∙ w) h; rest = here refl }
      turn q (step {p = s} g t) w = record { next = s; edge = rw (← w) g; rest = snoc s z p t h }
