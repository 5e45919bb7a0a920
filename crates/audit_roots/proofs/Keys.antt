-- Under which number an entry is counted, from its words: the parent, then the kind, then the object.
use mathlib.Core.List.{List}
use mathlib.Core.Logic.{inl, inr, ◌⊎◌, ⊎_elim}
use mathlib.Core.Path.{refl, ◌≡◌}
use Prim.Native.Nat.{◌+◌, ◌<◌, ℕ, ◌≤◌}
use native.Mathlib.Omega.{arith}
use lib.ListN.{get_or}
use borrow.Author.Tests.{eq-eqb, ne_eqb}
use Rattle.audit_entries.proofs.Entries.{place_cases}
use Rattle.std.proofs.Common.{None, Some}
use Rattle.rules.specs.Calls.{most}
use Rattle.state.specs.Read.{origin_from, place_from, place_of, word_at}
use Rattle.audit_roots.specs.Roots.{root_key}

module _ (b : List ℕ) (at : ℕ) where
  -- a child is no root
  pub key_child : (word_at b (at + 28) ≡ 0 → ⊥) → root_key (place_of b at) ≡ None
  unfolding place_of origin_from
  key_child d =
      rw (ne_eqb _ _ d)
      (place_cases (λ p. root_key p ≡ None) _ _ _ _ _ _ _ (λ _. refl) (λ _. refl) (λ _. refl) (λ _. refl) (λ _. refl) (λ _. refl) (λ _. refl))

  -- nor is a blank
  pub key_blank : (word_at b at ≡ 0) ⊎ (6 < word_at b at) → root_key (place_of b at) ≡ None
  unfolding place_of
  key_blank w =
      place_cases (λ p. root_key p ≡ None) _ _ _ _ _ _ _ (λ e. none (omega arith) (omega arith)) (λ e. none (omega arith) (omega arith))
      (λ e. none (omega arith) (omega arith)) (λ e. none (omega arith) (omega arith)) (λ e. none (omega arith) (omega arith))
      (λ e. none (omega arith) (omega arith)) (λ _. refl)
    where
      none : {P : Type 0} → 1 ≤ word_at b at → word_at b at ≤ 6 → P
      none low high = absurd (⊎_elim (λ z. omega arith) (λ g. omega arith) w)

  module _ (root : word_at b (at + 28) ≡ 0) where
    pub key_memory : word_at b at ≡ 3 → root_key (place_of b at) ≡ Some 256
    unfolding place_of origin_from place_from
    key_memory e = rw (eq-eqb _ _ root, e)

    pub key_function : word_at b at ≡ 6 → root_key (place_of b at) ≡ Some 257
    unfolding place_of origin_from place_from
    key_function e = rw (eq-eqb _ _ root, e)

    pub key_object : (word_at b at ≡ 0 → ⊥) → (word_at b at ≡ 3 → ⊥) → (word_at b at ≡ 6 → ⊥) → word_at b at ≤ 6
        → root_key (place_of b at) ≡ Some (get_or b (at + 16) 0)
    unfolding place_of origin_from
    key_object d0 d3 d6 most =
        rw (eq-eqb _ _ root)
        (place_cases (λ p. root_key p ≡ Some (get_or b (at + 16) 0)) _ _ _ _ _ _ _ (λ _. refl) (λ _. refl) (λ e. absurd (d3 e)) (λ _. refl) (λ _. refl)
        (λ e. absurd (d6 e)) (λ w. absurd (none w)))
      where
        none : (word_at b at ≡ 0) ⊎ (6 < word_at b at) → ⊥
        none (inl z) = d0 z
        none (inr g) = omega arith
