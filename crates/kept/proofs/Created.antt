-- "Creation makes the one root of an object": a new object in free slots, and its root in a blank place, leave a well-formed state.
use mathlib.Core.Bool.{Bool, true}
use mathlib.Core.Logic.{◌≢◌}
use mathlib.Core.Path.{ap, ap₂, refl, subst, sym, ◌∙◌, ◌≡◌}
use Prim.Native.Nat.{◌+◌, ◌<◌, suc, ℕ}
use native.Mathlib.Nat.{add-zero}
use native.Mathlib.Omega.{arith}
use lib.ListN.{get_or, length}
use borrow.Author.Tests.{eq-eqb}
use Rattle.rules.proofs.Inside.{laid_out}
use Rattle.rules.specs.Formed.{Formed}
use Rattle.rules.specs.WellFormed.{is_root_of, object_no, object_ok, one, right_ok, roots_of}
use Rattle.state.proofs.New.{Vacant}
use Rattle.state.proofs.Write.{is_table}
use Rattle.state.specs.State.{Object, State, entries_in, obj_at, place_at, places_of, put_place, raise, size_of}
use Rattle.words.specs.Fields.{slot}
use Rattle.words.specs.Rights.{root_right}
use Rattle.kept.specs.Names.{None, Some, Kind, Place, Slot, Spot}
use Rattle.kept.proofs.Base.{Base, base}
use Rattle.kept.proofs.PutPlace.{fits_filled, place_base, place_like, right_keep, roots_more}
use Rattle.kept.proofs.Raise.{raise_base, raise_fix, raise_roots, raised}
use Rattle.kept.proofs.Roots.{Of, formed_of, no_roots, root_here, root_other, rooted_at, rooted_same, rooted_no}
use Rattle.kept.proofs.Stand.{Bare, Stand, Zone, apart, first, later, vacant_first, zone}

module _ (st : State) (w : Formed st) (s : Slot) (o : Object) (i : ℕ) (n : Bare o i) (r : Vacant st s (size_of o))
    (p : Spot) (he : p.entry < entries_in st p.table) (empty : place_at st p.table p.entry ≡ None) (k : Kind) (of : Of k s i) where
  abbrev st₁ : State
  st₁ = raise st s o

  abbrev x : Place
  x = Some (root_right k)

  abbrev st₂ : State
  st₂ = put_place st₁ p x

  stand : Stand st st₁ s o
  stand = raised st (base w) s o i n r

  table_stays : obj_at st₁ p.table ≡ obj_at st p.table
  table_stays = raise_fix st (base w) s o i n r p.table (let z : object_no (obj_at st p.table) ≡ 1 = ap object_no (is_table (obj_at st p.table) p.entry he) in omega arith)

  he₁ : p.entry < entries_in st₁ p.table
  he₁ = subst (λ (y : Object). p.entry < length (places_of y)) (sym table_stays) he

  empty₁ : place_at st₁ p.table p.entry ≡ None
  empty₁ = ap (λ (y : Object). get_or (places_of y) p.entry None) table_stays ∙ empty

  module _ (good : object_ok st₁ s o ≡ true) (fine : right_ok st₁ (root_right k) ≡ true) where
    base₁ : Base st₁
    base₁ = raise_base st (base w) s o i n r good

    base₂ : Base st₂
    base₂ =
        let fits = fits_filled st₁ base₁ p x he₁ empty₁ in
        place_base st₁ base₁ p x he₁ (right_keep st₁ base₁ p x he₁ (root_right k) (λ n _ f. fits (root_right k) n f) fine) (λ a b c _ _ n _ f. fits c n f)

    -- ---- the roots: one more, of the new object
    roots₂ : (m : ℕ) (q : Slot) → roots_of st₂ m q ≡ roots_of st m q + one (is_root_of m q x)
    roots₂ m q = roots_more st₁ base₁ p x he₁ empty₁ m q ∙ ap (λ (z : ℕ). z + one (is_root_of m q x)) (raise_roots st (base w) s o i n r m q)

    same₂ : (m : ℕ) (q : Slot) → (suc i ≡ m → q.0 ≡ s.0 → ⊥) → roots_of st₂ m q ≡ roots_of st m q
    same₂ m q d = roots₂ m q ∙ ap (λ (b : Bool). roots_of st m q + one b) (root_other (root_right k) s i of m q d) ∙ add-zero (roots_of st m q)

    rooted_other : (z m : ℕ) → z ≢ s.0 → rooted_no st₂ (slot z) m ≡ rooted_no st (slot z) m
    rooted_other z m d = rooted_same st st₂ (slot z) m (λ j. same₂ j (slot z) (λ _ q. d q))

    rooted₂ : (z : ℕ) → z < 256 → Zone s.0 (size_of o) z → rooted_no st₂ (slot z) (object_no (obj_at st₁ (slot z))) ≡ true
    rooted₂ z hz (first q) = subst (λ (j : ℕ). rooted_no st₂ (slot j) (object_no (obj_at st₁ (slot j))) ≡ true) (sym q)
        (ap (rooted_no st₂ s) (ap object_no stand.here ∙ n.number)
        ∙ eq-eqb _ _ (roots₂ (suc i) s ∙ ap₂ (λ (a b : ℕ). a + b) none (ap one (root_here (root_right k) s i of refl))))
      where
        none : roots_of st (suc i) s ≡ 0
        none = no_roots st (base w) s (suc i) of.no_memory of.no_function (λ y. let u : suc i ≡ 0 = y ∙ ap object_no (vacant_first st st₁ (laid_out w) s o i n stand) in omega arith)
    rooted₂ z hz (later j l q) = subst (λ (a : ℕ). rooted_no st₂ (slot a) (object_no (obj_at st₁ (slot a))) ≡ true) (sym q) (ap (λ (y : Object). rooted_no st₂ (slot (s.0 + suc j)) (object_no y)) (stand.part j l))
    rooted₂ z hz (apart d) =
        rooted_other z (object_no (obj_at st₁ (slot z))) (λ q. d 0 n.some (q ∙ sym (add-zero s.0)))
        ∙ ap (λ (y : Object). rooted_no st (slot z) (object_no y)) (stand.same z d) ∙ rooted_at st w z hz

    pub created : Formed st₂
    created =
        formed_of st₂ base₂
        (λ z hz. ap (rooted_no st₂ (slot z)) (place_like st₁ base₁ p x he₁ z).number ∙ rooted₂ z hz (zone s.0 (size_of o) z))
        (same₂ 3 (slot 0) (λ q _. of.no_memory q) ∙ w.memory)
        (same₂ 6 (slot 0) (λ q _. of.no_function q) ∙ w.function)
