-- An object that stands in one state, and whose slots are free in the other: creation goes from the second to the first, deletion back.
-- Where the object holds no right, the places have the same numbers in both, and the counts of roots are the same.
use mathlib.Core.Path.{ap, refl, subst, sym, ◌∙◌, ◌≡◌}
use Prim.Native.Nat.{◌*◌, ◌+◌, ◌-◌, ◌/◌, ◌<◌, suc, ℕ, ◌≤◌}
use native.Mathlib.Decide.{dec_lt, ℕ_discrete}
use native.Mathlib.Nat.{add-zero}
use native.Mathlib.Omega.{arith}
use lib.ListN.{get_or, length}
use Rattle.words.specs.Fields.{slot}
use Rattle.words.specs.Tests.{sum_below}
use Rattle.words.proofs.Tests.{sum_same, sum_zero}
use Rattle.state.specs.Bytes.{tag_of}
use Rattle.state.specs.Layout.{Laid}
use Rattle.state.specs.State.{Object, State, body, directory, endpoint, entries_in, first_of, free, obj_at, place_at, place_numbered, places_of, process, raise, raze, size_of, table}
use Rattle.state.proofs.Bodies.{part_of}
use Rattle.state.proofs.Elsewhere.{raise_apart, raise_first, raise_part, raze_apart, raze_free}
use Rattle.state.proofs.New.{Vacant}
use Rattle.state.proofs.Run.{object_fits, object_part}
use Rattle.rules.specs.WellFormed.{is_root_of, object_no, one, roots_of}
use Rattle.kept.specs.Names.{None, Place, Slot}
use Rattle.kept.proofs.Objects.{first_self}

-- what is made and what is deleted: it has a number, takes a slot at least, and holds no right
pub record Bare (o : Object) (i : ℕ) : Type 0 where
  pub number : object_no o ≡ suc i
  pub some : 1 ≤ size_of o
  pub blank : (e : ℕ) → get_or (places_of o) e None ≡ None

-- slot k against the n slots from s on
pub data Zone (s n k : ℕ) : Type 0 where
  first : k ≡ s → Zone s n k
  later : (j : ℕ) → suc j < n → k ≡ s + suc j → Zone s n k
  apart : ((j : ℕ) → j < n → k ≡ s + j → ⊥) → Zone s n k

pub zone : (s n k : ℕ) → Zone s n k
zone s n k = go (ℕ_discrete k s) (dec_lt k s) (dec_lt k (s + n))
  where
    go : Dec (k ≡ s) → Dec (k < s) → Dec (k < s + n) → Zone s n k
    go (yes e) b c = first e
    go (no d) (yes l) c = apart (λ j h e. omega arith)
    go (no d) (no l) (no u) = apart (λ j h e. omega arith)
    go (no d) (no l) (yes u) = later (k - s - 1) (omega arith) (omega arith)

-- o stands at s in b, and in a its slots are free
pub record Stand (a b : State) (s : Slot) (o : Object) : Type 0 where
  pub vacant : (j : ℕ) → j < size_of o → obj_at a (slot (s.0 + j)) ≡ free
  pub here : obj_at b s ≡ o
  pub part : (j : ℕ) → suc j < size_of o → obj_at b (slot (s.0 + suc j)) ≡ body s
  pub same : (k : ℕ) → ((j : ℕ) → j < size_of o → k ≡ s.0 + j → ⊥) → obj_at b (slot k) ≡ obj_at a (slot k)

-- ---- creation and deletion
pub stand_raise : (st : State) → Laid st → (s : Slot) (o : Object) → 1 ≤ size_of o → Vacant st s (size_of o) → Stand st (raise st s o) s o
stand_raise st w s o some r =
    let fits : s.0 + size_of o ≤ length st.slots = omega (arith, w.room, r.fits) in
    record { vacant = r.none; here = raise_first st s o some fits; part = raise_part st s o some fits; same = raise_apart st s o some fits }

pub stand_raze : (st : State) → Laid st → (s : Slot) → 2 ≤ tag_of (obj_at st s) → Stand (raze st s) st s (obj_at st s)
stand_raze st w s tag =
    let fits : s.0 + size_of (obj_at st s) ≤ length st.slots = omega (arith, w.room, object_fits st w s tag) in
    record { vacant = raze_free st s fits; here = refl; part = object_part st w s tag; same = λ k d. sym (raze_apart st s fits k d) }

-- ---- what the two states share
module _ (a b : State) (w : Laid a) (s : Slot) (o : Object) (i : ℕ) (n : Bare o i) (x : Stand a b s o) where
  pub vacant_first : obj_at a s ≡ free
  vacant_first = ap (λ (k : ℕ). obj_at a (slot k)) (sym (add-zero s.0)) ∙ x.vacant 0 n.some

  -- the object of which a slot of neither is a part
  first_same : (k : ℕ) (y : Object) → obj_at a (slot k) ≡ y → obj_at b (slot k) ≡ obj_at a (slot k) → obj_at b (first_of k y) ≡ obj_at a (first_of k y)
  first_same k free e h = h
  first_same k (body g) e h =
      let p = part_of a w k g e in
      x.same g.0 (λ j l q. let z : k < g.0 + 1 = subst (λ (y : Object). k < g.0 + size_of y) (ap (λ (m : ℕ). obj_at a (slot m)) q ∙ x.vacant j l) p.within in omega (arith, p.after))
  first_same k (table ps) e h = h
  first_same k (directory g es) e h = h
  first_same k (process t d) e h = h
  first_same k (endpoint c z) e h = h

  found_at : (r : State) (m : ℕ) (h : Slot) → first_of (m / 2) (obj_at r (slot (m / 2))) ≡ h → place_numbered r m ≡ place_at r h (m - 2 * h.0)
  found_at r m h q = ap (λ (y : Slot). place_at r y (m - 2 * y.0)) q

  same_at : (m : ℕ) → obj_at b (slot (m / 2)) ≡ obj_at a (slot (m / 2)) → place_numbered b m ≡ place_numbered a m
  same_at m e =
      let h : Slot = first_of (m / 2) (obj_at a (slot (m / 2))) in
      found_at b m h (ap (first_of (m / 2)) e) ∙ ap (λ (y : Object). get_or (places_of y) (m - 2 * h.0) None) (first_same (m / 2) (obj_at a (slot (m / 2))) refl e)

  without : (m : ℕ) → obj_at a (slot (m / 2)) ≡ free → place_numbered a m ≡ None
  without m e = found_at a m (slot (m / 2)) (ap (first_of (m / 2)) e) ∙ ap (λ (y : Object). get_or (places_of y) (m - 2 * (m / 2)) None) e

  with_it : (m : ℕ) → first_of (m / 2) (obj_at b (slot (m / 2))) ≡ s → place_numbered b m ≡ None
  with_it m e = found_at b m s e ∙ ap (λ (y : Object). get_or (places_of y) (m - 2 * s.0) None) x.here ∙ n.blank (m - 2 * s.0)

  pub numbered_same : (m : ℕ) → place_numbered b m ≡ place_numbered a m
  numbered_same m = go (zone s.0 (size_of o) (m / 2))
    where
      go : Zone s.0 (size_of o) (m / 2) → place_numbered b m ≡ place_numbered a m
      go (first e) = with_it m (rw e (ap (first_of s.0) x.here ∙ first_self o i n.number s.0)) ∙ sym (without m (rw e vacant_first))
      go (later j l e) = with_it m (rw e (ap (first_of (s.0 + suc j)) (x.part j l))) ∙ sym (without m (rw e (x.vacant (suc j) l)))
      go (apart d) = same_at m (x.same (m / 2) d)

  pub stand_roots : (k : ℕ) (q : Slot) → roots_of b k q ≡ roots_of a k q
  unfolding roots_of
  stand_roots k q = sum_same 256 _ _ (λ y. go y (zone s.0 (size_of o) y))
    where
      go : (y : ℕ) → Zone s.0 (size_of o) y
          → sum_below (entries_in b (slot y)) (λ e. one (is_root_of k q (place_at b (slot y) e))) ≡ sum_below (entries_in a (slot y)) (λ e. one (is_root_of k q (place_at a (slot y) e)))
      go y (first e) = rw (e, x.here, vacant_first) (sum_zero (length (places_of o)) _ (λ m _. ap (λ (p : Place). one (is_root_of k q p)) (n.blank m)) ∙ sym (sum_zero 0 _ (λ m h. absurd (omega arith))))
      go y (later j l e) = rw (e, x.part j l, x.vacant (suc j) l) refl
      go y (apart d) = rw (x.same y d) refl
