-- A chain that reaches a root is kept where a blank place is filled, where a place with no child changes, and where no code changes: f has the
-- code of each place.
use mathlib.Core.Logic.{◌≢◌}
use mathlib.Core.Path.{◌∙◌, ◌≡◌}
use Prim.Native.Nat.{◌+◌, ℕ}
use native.Mathlib.Omega.{arith}
use Rattle.rules.proofs.Chain.{Reaches, child, root}

-- g is f but for entry x
abbrev But : (ℕ → ℕ) → (ℕ → ℕ) → ℕ → Type 0
But f g x = (y : ℕ) → y ≢ x → g y ≡ f y

module _ (f g : ℕ → ℕ) (x : ℕ) (but : But f g x) where
  -- x was unused: no chain passed it
  pub fresh_reaches : f x ≡ 0 → (y : ℕ) → Reaches f y → Reaches g y
  fresh_reaches z y (root h) = root (but y (λ w. let k = rw w at h in omega arith) ∙ h)
  fresh_reaches z y (child {p = p} h r) = child (but y (λ w. let k = rw w at h in omega arith) ∙ h) (fresh_reaches z p r)

  -- x had no child: no chain passed it but its own
  pub gone_reaches : ((y : ℕ) → f y ≡ x + 2 → ⊥) → (y : ℕ) → y ≢ x → Reaches f y → Reaches g y
  gone_reaches n y w (root h) = root (but y w ∙ h)
  gone_reaches n y w (child {p = p} h r) = child (but y w ∙ h) (gone_reaches n p (λ v. n y (rw v at h)) r)

pub same_reaches : (f g : ℕ → ℕ) → ((e : ℕ) → g e ≡ f e) → (e : ℕ) → Reaches f e → Reaches g e
same_reaches f g s e (root h) = root (s e ∙ h)
same_reaches f g s e (child {p = p} h r) = child (s e ∙ h) (same_reaches f g s p r)
