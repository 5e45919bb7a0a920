-- "its parent chain reaches a root": of a right's origin, and what the walk knows before it sets out.
use Rattle.std.specs.Prelude.{Bool, false, true, List, ◌≡◌, ℕ, get_or, length}
use Rattle.rules.specs.WellFormed.{every_place, reaches, right}
use Rattle.state.specs.Layout.{Laid}
use Rattle.state.specs.Read.{read}
use Rattle.state.specs.State.{State, place_numbered}
use Rattle.words.specs.Sizes.{place_count, state_length}
use Rattle.audit_chains.specs.Names.{None, Some, Origin, Place}
unfoldable pub use Rattle.rules.specs.Chains.{codes}

unfoldable pub chained : State → Origin → Bool
chained st None = true
chained st (Some p) = reaches (place_numbered st) place_count p

-- a right stands in a place
abbrev pub holds : Place → Bool
holds None = false
holds (Some c) = true

-- the parent that an origin names stands
abbrev pub under : State → Origin → Bool
under st None = true
under st (Some p) = holds (place_numbered st p)

-- the two of a place
abbrev pub place_chained : State → Place → Bool
place_chained st p = right (λ c. chained st c.origin) p

abbrev pub parent_stands : State → Place → Bool
parent_stands st p = right (λ c. under st c.origin) p

-- what the parts of the check before this one have shown: the length, the layout, and that each right's parent stands
pub record Ready (b : List ℕ) : Type 0 where
  pub size : length b ≡ state_length
  pub laid : Laid (read b)
  pub parents : every_place (read b) (right (λ c. under (read b) c.origin)) ≡ true

-- "A 512-entry mark array, one mark per possible table entry, records entries already shown to reach a root."
pub record Shown (st : State) (marks : List ℕ) : Type 0 where
  pub long : length marks ≡ place_count
  pub shown : (x : ℕ) → (get_or marks x 0 ≡ 0 → ⊥) → reaches (place_numbered st) place_count x ≡ true
