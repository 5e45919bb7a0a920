-- What the note of a slot tells of the slots that its object takes.
use mathlib.Core.Bool.{false}
use mathlib.Core.List.{List}
use mathlib.Core.Path.{ap, refl, ◌∙◌, ◌≡◌}
use Prim.Native.Nat.{◌*◌, ◌+◌, ◌<◌, ℕ}
use lib.Dec.{eqb}
use Rattle.state.proofs.Look.{argument_byte, listed_length, object_cases, object_known, object_read, tag_byte}
use Rattle.state.specs.Layout.{goes_on}
use Rattle.state.specs.Read.{object_from, read, slot_from}
use Rattle.state.specs.State.{obj_at, positions_in, size_of}
use Rattle.words.specs.Sizes.{entry_size, header_size, position_size, slot_count, slots_for}
use Rattle.audit_layout.specs.Names.{Slot}

module _ (b : List ℕ) (k : Slot) (in_it : k.0 < slot_count) where
  pub size_later : tag_byte b k.0 ≡ 1 → size_of (obj_at (read b) k) ≡ 0
  unfolding object_from
  size_later e = ap size_of (object_known b k in_it 1 e)

  pub size_table : tag_byte b k.0 ≡ 2 → size_of (obj_at (read b) k) ≡ slots_for (entry_size * argument_byte b k.0)
  unfolding object_from
  size_table e = ap size_of (object_known b k in_it 2 e) ∙ rw listed_length

  pub size_directory : tag_byte b k.0 ≡ 3 → size_of (obj_at (read b) k) ≡ slots_for (header_size + position_size * positions_in (read b) k)
  unfolding object_from
  size_directory e = rw (object_known b k in_it 3 e)

  pub size_other : (tag_byte b k.0 ≡ 1 → ⊥) → (tag_byte b k.0 ≡ 2 → ⊥) → (tag_byte b k.0 ≡ 3 → ⊥) → size_of (obj_at (read b) k) ≡ 1
  unfolding slot_from
  size_other d1 d2 d3 =
      rw (object_read b k in_it)
      (object_cases (λ o. size_of o ≡ 1) _ _ _ (λ e. absurd (d1 e)) (λ e. absurd (d2 e)) (λ e. absurd (d3 e)) (λ e. refl) (λ e. refl) (λ a1 a2 a3 a4 a5. refl))

  -- ---- a later slot of the object at h
  pub goes_known : (h : Slot) → tag_byte b k.0 ≡ 1 → goes_on h (obj_at (read b) k) ≡ eqb (argument_byte b k.0) h.0
  unfolding object_from
  goes_known h e = ap (goes_on h) (object_known b k in_it 1 e)

  pub goes_other : (h : Slot) → (tag_byte b k.0 ≡ 1 → ⊥) → goes_on h (obj_at (read b) k) ≡ false
  unfolding slot_from
  goes_other h d =
      rw (object_read b k in_it)
      (object_cases (λ o. goes_on h o ≡ false) _ _ _ (λ e. absurd (d e)) (λ e. refl) (λ e. refl) (λ e. refl) (λ e. refl) (λ a1 a2 a3 a4 a5. refl))
