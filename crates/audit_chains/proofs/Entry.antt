-- What the words of an entry say of its chain; and that in a laid-out state the place of number x stands at byte 32·x, in slot x / 2.
use mathlib.Core.Bool.{Bool, false, false≢true, true}
use mathlib.Core.List.{List}
use mathlib.Core.Logic.{⊎_elim}
use mathlib.Core.Path.{ap, refl, sym, ◌∙◌, ◌≡◌}
use Prim.Native.Nat.{◌%◌, ◌*◌, ◌+◌, ◌-◌, ◌/◌, ◌<◌, suc, zero, ℕ, ◌≤◌}
use native.Mathlib.Omega.{arith}
use lib.Dec.{ltb}
use lib.ListN.{drop, length, length-drop, length-take, take}
use borrow.Author.Tests.{eq-eqb, ltb-false, ltb-true, ne_eqb}
use Rattle.audit_entries.proofs.Entries.{place_cases}
use Rattle.rules.proofs.Inside.{blank_past}
use Rattle.rules.specs.Chains.{code_of, origin_code}
use Rattle.rules.specs.WellFormed.{every_place, right}
use Rattle.state.proofs.Bodies.{first_le}
use Rattle.state.proofs.Look.{place_known, place_past}
use Rattle.state.proofs.Parts.{word_part}
use Rattle.state.specs.Layout.{Laid}
use Rattle.state.specs.Read.{origin_from, place_of, read, word_at}
use Rattle.state.specs.State.{State, entries_in, first_of, obj_at, place_numbered}
use Rattle.words.proofs.Tests.{all_at}
use Rattle.words.specs.Fields.{slot}
use Rattle.words.specs.Sizes.{entry_size, place_count, slot_count, slot_size, state_length}
use Rattle.audit_chains.specs.Chains.{Ready, codes, holds, under}
use Rattle.audit_chains.specs.Names.{None, Some, Origin, Place, Slot}

-- ---- the parent word
origin_code_lem : (w : ℕ) → origin_code (origin_from w) ≡ w + 1
unfolding origin_from
origin_code_lem zero = refl
origin_code_lem (suc n) = rw (ne_eqb (suc n) 0 (λ z. omega arith)) (omega arith)

module _ (b : List ℕ) (at : ℕ) where
  pub entry_code : holds (place_of b at) ≡ true → code_of (place_of b at) ≡ word_at b (at + 28) + 1
  unfolding place_of
  entry_code =
      let is = origin_code_lem (word_at b (at + 28)) in
      place_cases (λ p. holds p ≡ true → code_of p ≡ word_at b (at + 28) + 1) _ _ _ _ _ _ _ (λ _ _. is) (λ _ _. is) (λ _ _. is) (λ _ _. is) (λ _ _. is)
      (λ _ _. is) (λ _ h. absurd (false≢true h))

  module _ (P : Origin → Bool) where
    origin_of : (word_at b at ≡ 0 → ⊥) → word_at b at ≤ 6 → right (λ c. P c.origin) (place_of b at) ≡ P (origin_from (word_at b (at + 28)))
    unfolding place_of
    origin_of d most =
        place_cases (λ p. right (λ c. P c.origin) p ≡ P (origin_from (word_at b (at + 28)))) _ _ _ _ _ _ _ (λ _. refl) (λ _. refl) (λ _. refl)
        (λ _. refl) (λ _. refl) (λ _. refl) (λ w. absurd (⊎_elim d (λ l. omega arith) w))

    -- a kind and a parent word: a child
    pub entry_child : (kind p : ℕ) → kind ≡ word_at b at → word_at b (at + 28) ≡ p + 1 → (kind ≡ 0 → ⊥) → kind ≤ 6
        → right (λ c. P c.origin) (place_of b at) ≡ P (Some p)
    unfolding origin_from
    entry_child kind p k e d most =
        let back : p + 1 - 1 ≡ p = omega arith in
        rw (origin_of (λ z. d (k ∙ z)) (omega arith), e, ne_eqb (p + 1) 0 (λ z. omega arith), back)

    pub entry_root : P None ≡ true → word_at b (at + 28) ≡ 0 → right (λ c. P c.origin) (place_of b at) ≡ true
    unfolding place_of origin_from
    entry_root r z =
        rw (eq-eqb _ _ z)
        (place_cases (λ p. right (λ c. P c.origin) p ≡ true) _ _ _ _ _ _ _ (λ _. r) (λ _. r) (λ _. r) (λ _. r) (λ _. r) (λ _. r) (λ _. refl))

    pub entry_blank : (1 ≤ word_at b at → word_at b at ≤ 6 → ⊥) → right (λ c. P c.origin) (place_of b at) ≡ true
    unfolding place_of
    entry_blank d =
        place_cases (λ p. right (λ c. P c.origin) p ≡ true) _ _ _ _ _ _ _ (λ e. none (omega arith) (omega arith)) (λ e. none (omega arith) (omega arith))
        (λ e. none (omega arith) (omega arith)) (λ e. none (omega arith) (omega arith)) (λ e. none (omega arith) (omega arith))
        (λ e. none (omega arith) (omega arith)) (λ _. refl)
      where
        none : {A : Type 0} → 1 ≤ word_at b at → word_at b at ≤ 6 → A
        none low high = absurd (d low high)

-- ---- the place of a number
module _ (b : List ℕ) (w : Laid (read b)) (x : ℕ) (there : holds (place_numbered (read b) x) ≡ true) where
  number_small : (z : Bool) → ltb x place_count ≡ z → x < place_count
  number_small true e = ltb-true _ _ e
  number_small false e = absurd (false≢true (rw (blank_past (read b) w x (ltb-false _ _ e)) at there))

  pub numbered_small : x < place_count
  numbered_small = number_small (ltb x place_count) refl

  abbrev table_of : Slot
  table_of = first_of (x / 2) (obj_at (read b) (slot (x / 2)))

  low : table_of.0 ≤ x / 2
  low = first_le (read b) w (x / 2) (obj_at (read b) (slot (x / 2))) refl

  -- its entry is one of the table's
  entry_there : (z : Bool) → ltb (x - 2 * table_of.0) (entries_in (read b) table_of) ≡ z → x - 2 * table_of.0 < entries_in (read b) table_of
  entry_there true e = ltb-true _ _ e
  entry_there false e = absurd (false≢true (rw (place_past (read b) table_of (x - 2 * table_of.0) (ltb-false _ _ e)) at there))

  pub numbered_entry : x - 2 * table_of.0 < entries_in (read b) table_of
  numbered_entry = entry_there (ltb (x - 2 * table_of.0) (entries_in (read b) table_of)) refl

  pub numbered_at : place_numbered (read b) x ≡ place_of b (32 * x)
  numbered_at =
      let here : 64 * table_of.0 + 32 * (x - 2 * table_of.0) ≡ 32 * x = omega (arith, low) in
      place_known b table_of (x - 2 * table_of.0) (omega (arith, low, numbered_small)) numbered_entry ∙ ap (place_of b) here

  -- the one slot in which it stands, which has its parent word
  abbrev slot_part : List ℕ
  slot_part = take slot_size (drop (slot_size * (x / 2)) b)

  pub numbered_room : length b ≡ state_length → entry_size * (x % 2) + entry_size ≤ length slot_part
  numbered_room long = simp (length-take, length-drop) (omega (arith, numbered_small))

  pub numbered_code : codes (read b) x ≡ word_at slot_part (entry_size * (x % 2) + 28) + 1
  unfolding codes
  numbered_code =
      let here : slot_size * (x / 2) + (entry_size * (x % 2) + 28) ≡ 32 * x + 28 = omega arith in
      let inside = word_part b (slot_size * (x / 2)) slot_size (entry_size * (x % 2) + 28) (omega arith) ∙ ap (word_at b) here in
      ap code_of numbered_at ∙ entry_code b (32 * x) (rw numbered_at at there) ∙ ap (λ (w : ℕ). w + 1) (sym inside)

-- ---- a standing place's parent stands
parent_stands_lem : (st : State) (q : ℕ) (p : Place) → right (λ c. under st c.origin) p ≡ true → code_of p ≡ q + 2 → holds (place_numbered st q) ≡ true
parent_stands_lem st q None h e = absurd (omega arith)
parent_stands_lem st q (Some c) h e = go c.origin h e
  where
    go : (o : Origin) → under st o ≡ true → origin_code o ≡ q + 2 → holds (place_numbered st q) ≡ true
    go None h e = absurd (omega arith)
    go (Some r) h e = let s : r ≡ q = omega arith in rw s at h

pub numbered_parent : (b : List ℕ) → Ready b → (x q : ℕ) → holds (place_numbered (read b) x) ≡ true → codes (read b) x ≡ q + 2
    → holds (place_numbered (read b) q) ≡ true
unfolding codes every_place
numbered_parent b r x q there e =
    let t = first_of (x / 2) (obj_at (read b) (slot (x / 2))) in
    let inside : t.0 < slot_count = omega (arith, low b r.laid x there, numbered_small b r.laid x there) in
    parent_stands_lem (read b) q (place_numbered (read b) x)
    (all_at _ _ (all_at slot_count _ r.parents t.0 inside) (x - 2 * t.0) (numbered_entry b r.laid x there)) e
