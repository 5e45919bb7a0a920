-- The parts of the check, in the order in which they are asked, are together the rule `sound`.
use mathlib.Core.Bool.{Bool, false, true}
use mathlib.Core.List.{List}
use mathlib.Core.Path.{refl, sym, ◌∙◌, ◌≡◌}
use Prim.Native.Nat.{◌+◌, ◌^◌, ℕ}
use native.Mathlib.Omega.{arith}
use lib.Dec.{eqb, ltb}
use lib.ListN.{get_or, length}
use borrow.Author.Tests.{lt-ltb}
use mir.Syntax.{w8}
use mir.Val.{Fits}
use Rattle.audit_chains.specs.Chains.{chained}
use Rattle.audit_rights.proofs.Standing.{and_true}
use Rattle.audit_rights.specs.ButChain.{descends_but_chain, right_but_chain}
use Rattle.rules.specs.Buffer.{same, sound}
use Rattle.rules.specs.WellFormed.{apart, descends, every_object, every_place, formed, object_ok, right, right_ok, rooted, wf}
use Rattle.state.specs.Bytes.{bytes}
use Rattle.state.specs.Read.{read, word_at}
use Rattle.state.specs.State.{State, entries_in, place_at}
use Rattle.words.proofs.Tests.{all_at, all_of, all_same, and_both, and_left, and_right, iff}
use Rattle.words.specs.Fields.{slot}
use Rattle.words.specs.Sizes.{clock_offset, slot_count, state_length}
use Rattle.words.specs.Tests.{◌&◌, all_below}
use Rattle.audit.specs.Names.{None, Capability, Some, Origin, Place}
use Rattle.audit.proofs.Still.{still_formed}

-- ---- tests that are asked one after the other, in another order
all_and : (n : ℕ) (p q : ℕ → Bool) → all_below n (λ x. p x & q x) ≡ (all_below n p & all_below n q)
all_and n p q =
    iff _ _
    (λ h. and_both _ _ (all_of n p (λ x l. and_left _ _ (all_at n _ h x l))) (all_of n q (λ x l. and_right _ _ (all_at n _ h x l))))
    (λ h. all_of n _ (λ x l. and_both _ _ (all_at n p (and_left _ _ h) x l) (all_at n q (and_right _ _ h) x l)))

last_out : (n e f s d k : Bool) → (n & e & f & s & d & k) ≡ ((n & e & f & s & d) & k)
unfolding ◌&◌
last_out false e f s d k = refl
last_out true false f s d k = refl
last_out true true false s d k = refl
last_out true true true false d k = refl
last_out true true true true d k = refl

in_turn : (size same laid rights chains roots objects time : Bool) → time ≡ true
    → (size & same & (laid & (rights & chains) & roots & objects) & time) ≡ (size & laid & same & objects & rights & roots & chains)
in_turn size same laid rights chains roots objects time t = iff _ _ there back
  where
    there : (size & same & (laid & (rights & chains) & roots & objects) & time) ≡ true → (size & laid & same & objects & rights & roots & chains) ≡ true
    there h =
        let h₁ = and_right _ _ h in
        let h₂ = and_left _ _ (and_right _ _ h₁) in
        let h₃ = and_right _ _ h₂ in
        let h₄ = and_right _ _ h₃ in
        and_both _ _ (and_left _ _ h)
        (and_both _ _ (and_left _ _ h₂)
        (and_both _ _ (and_left _ _ h₁)
        (and_both _ _ (and_right _ _ h₄)
        (and_both _ _ (and_left _ _ (and_left _ _ h₃)) (and_both _ _ (and_left _ _ h₄) (and_right _ _ (and_left _ _ h₃)))))))

    back : (size & laid & same & objects & rights & roots & chains) ≡ true → (size & same & (laid & (rights & chains) & roots & objects) & time) ≡ true
    back h =
        let h₁ = and_right _ _ h in
        let h₂ = and_right _ _ h₁ in
        let h₃ = and_right _ _ h₂ in
        let h₄ = and_right _ _ h₃ in
        let h₅ = and_right _ _ h₄ in
        and_both _ _ (and_left _ _ h)
        (and_both _ _ (and_left _ _ h₂)
        (and_both _ _
        (and_both _ _ (and_left _ _ h₁)
        (and_both _ _ (and_both _ _ (and_left _ _ h₄) (and_right _ _ h₅)) (and_both _ _ (and_left _ _ h₅) (and_left _ _ h₃)))) t))

-- ---- a right is judged in two parts: all but its chain, and its chain
module _ (st : State) where
  descent_parts : (c : Capability) (o : Origin) → descends st c o ≡ (descends_but_chain st c o & chained st o)
  unfolding descends descends_but_chain chained
  descent_parts c None = sym (and_true (descends_but_chain st c None))
  descent_parts c (Some p) = refl

  right_parts : (c : Capability) → right_ok st c ≡ (right_but_chain st c & chained st c.origin)
  unfolding right_ok right_but_chain
  right_parts c = rw (descent_parts c c.origin) (last_out _ _ _ _ _ _)

  place_parts : (p : Place) → right (right_ok st) p ≡ (right (right_but_chain st) p & right (λ c. chained st c.origin) p)
  unfolding ◌&◌
  place_parts None = refl
  place_parts (Some c) = right_parts c

  places_parts : every_place st (right (right_ok st)) ≡ (every_place st (right (right_but_chain st)) & every_place st (right (λ c. chained st c.origin)))
  unfolding every_place
  places_parts =
      all_same slot_count _ _ (λ s. all_same (entries_in st (slot s)) _ _ (λ e. place_parts (place_at st (slot s) e)) ∙ all_and (entries_in st (slot s)) _ _)
      ∙ all_and slot_count _ _

-- ---- the clock that is read from bytes is a word
clock_word : (b : List ℕ) → ((i : ℕ) → Fits w8 (get_or b i 0)) → ltb (read b).clock (2 ^ 32) ≡ true
unfolding read word_at
clock_word b small =
    lt-ltb (word_at b clock_offset) (2 ^ 32) (omega (arith, small clock_offset, small (clock_offset + 1), small (clock_offset + 2), small (clock_offset + 3)))

-- the parts, in their order
abbrev pub asked_in_order : List ℕ → Bool
asked_in_order b =
    eqb (length b) state_length & apart (read b) & same (bytes (read b)) b & every_object (read b) (object_ok (read b))
    & every_place (read b) (right (right_but_chain (read b))) & rooted (read b) & every_place (read b) (right (λ c. chained (read b) c.origin))

formed_order : (b : List ℕ) (time : Bool) → time ≡ true → (eqb (length b) state_length & same (bytes (read b)) b & formed (read b) & time) ≡ asked_in_order b
unfolding formed
formed_order b time t = rw (places_parts (read b)) (in_turn _ _ _ _ _ _ _ time t)

pub in_order : (b : List ℕ) → ((i : ℕ) → Fits w8 (get_or b i 0)) → sound b ≡ asked_in_order b
unfolding sound wf
in_order b small = rw (still_formed (read b)) (formed_order b _ (clock_word b small))
