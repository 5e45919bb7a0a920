-- What the earlier parts have shown is what the roots' part and the chains' part ask for; and the listed slots are all heads.
use mathlib.Core.Bool.{Bool, true}
use mathlib.Core.List.{List}
use mathlib.Core.Path.{refl, ◌≡◌}
use Prim.Native.Nat.{ℕ}
use native.Mathlib.Omega.{arith}
use lib.ListN.{drop, length, take}
use Rattle.std.proofs.lemmas.List.{length-take-le, take-append-drop}
use Rattle.audit_chains.specs.Chains.{holds, under}
use Rattle.audit_entries.specs.Heads.{Listed}
use Rattle.audit_objects.proofs.Checks.{apart_laid}
use Rattle.audit_objects.specs.Heads.{AreHeads}
use Rattle.audit_rights.specs.ButChain.{descends_but_chain, right_but_chain}
use Rattle.audit_roots.specs.Roots.{Ready, named}
use Rattle.rules.specs.WellFormed.{apart, every_place, names, parent_fits, right}
use Rattle.state.specs.Read.{read}
use Rattle.state.specs.State.{State, place_numbered}
use Rattle.words.proofs.Tests.{all_at, all_of, and_left, and_right}
use Rattle.words.specs.Sizes.{slot_count, state_length}
use Rattle.audit.specs.Names.{None, Capability, Some, Origin, Place}
use Rattle.audit_roots.specs.Roots as Roots
use Rattle.audit_chains.specs.Chains as Chains

-- every place that passes one test passes what follows from it
places_so : (st : State) (p q : Place → Bool) → ((x : Place) → p x ≡ true → q x ≡ true) → every_place st p ≡ true → every_place st q ≡ true
unfolding every_place
places_so st p q f h = all_of slot_count _ (λ s hs. all_of _ _ (λ e he. f _ (all_at _ _ (all_at slot_count _ h s hs) e he)))

-- a right that passes but for its chain names what stands there, and its parent stands
right_names : (st : State) (x : Place) → right (right_but_chain st) x ≡ true → right (λ c. names st c.kind) x ≡ true
unfolding right_but_chain
right_names st None h = refl
right_names st (Some c) h = and_left _ _ h

fits_holds : (c : Capability) (x : Place) → parent_fits c x ≡ true → holds x ≡ true
fits_holds c None h = h
fits_holds c (Some p) h = refl

descent_under : (st : State) (c : Capability) (o : Origin) → descends_but_chain st c o ≡ true → under st o ≡ true
unfolding descends_but_chain
descent_under st c None h = refl
descent_under st c (Some p) h = fits_holds c (place_numbered st p) h

right_under : (st : State) (x : Place) → right (right_but_chain st) x ≡ true → right (λ c. under st c.origin) x ≡ true
unfolding right_but_chain
right_under st None h = refl
right_under st (Some c) h = descent_under st c c.origin (and_right _ _ (and_right _ _ (and_right _ _ (and_right _ _ h))))

module _ (b : List ℕ) (size : length b ≡ state_length) (laid : apart (read b) ≡ true) (rights : every_place (read b) (right (right_but_chain (read b))) ≡ true) where
  pub roots_ready : Roots.Ready b
  unfolding Roots.named
  roots_ready = record { size = size; laid = apart_laid (read b) laid; rights = places_so (read b) _ _ (right_names (read b)) rights }

  pub chains_ready : Chains.Ready b
  chains_ready = record { size = size; laid = apart_laid (read b) laid; parents = places_so (read b) _ _ (right_under (read b)) rights }

-- the listed slots, as they are lent to the parts
pub listed_heads : (b before h : List ℕ) (m : ℕ) → Listed b before h m → AreHeads b (take m h)
listed_heads b before h m w = record {
  rest = drop m h;
  heads = rw (take-append-drop m h, length-take-le m h (omega (arith, w.heads.few, w.heads.long))) w.heads;
}
