-- What stands in each slot after a change of the state: what was written, and elsewhere what stood there.
use mathlib.Core.Path.{◌≡◌, refl, sym, ◌∙◌, ap}
use mathlib.Core.Bool.{Bool, true, false}
use mathlib.Core.List.{List, [], ◌∷◌, ◌++◌}
use Prim.Native.Nat.{ℕ, zero, suc, ◌+◌, ◌*◌, ◌-◌, ◌<◌, ◌≤◌}
use native.Mathlib.Nat.{add-zero}
use native.Mathlib.Omega.{arith}
use lib.Dec.{ltb}
use lib.ListN.{length, set, length-set, get_or, get_or-replicate, take, drop, replicate, length-replicate, get_or-append}
use lib.Seq.{get_or-append-add, get_or-take, get_or-drop, length-take-le}
use borrow.Author.Tests.{ltb-true, ltb-false}
use Rattle.words.specs.Sizes.{slots_for}
use Rattle.words.specs.Fields.{slot}
use Rattle.state.specs.Names.{Slot, Spot, Place}
use Rattle.state.specs.State.{Object, body, free, table, State, size_of, places_of, obj_at, entries_in, splice, put_place, risen, raise, raze}
use Rattle.state.specs.Bytes.{tag_of}
use Rattle.state.proofs.Pieces.{length_splice}
use Rattle.state.proofs.Write.{is_table}
use Rattle.state.proofs.Run.{risen_length}

-- ---- one object replaced: a view f that the new one shares with the old one is kept in every slot
put_keeps : {A B : Type 0} (f : A → B) (l : List A) (i j : ℕ) (a d : A) → f a ≡ f (get_or l i d) → f (get_or (set l i a) j d) ≡ f (get_or l j d)
put_keeps f [] i j a d e = refl
put_keeps f (x ∷ l) zero zero a d e = e
put_keeps f (x ∷ l) zero (suc j) a d e = refl
put_keeps f (x ∷ l) (suc i) zero a d e = refl
put_keeps f (x ∷ l) (suc i) (suc j) a d e = put_keeps f l i j a d e

module _ (st : State) (p : Spot) (x : Place) (h : p.entry < entries_in st p.table) where
  pub place_size : (t : Slot) → size_of (obj_at (put_place st p x) t) ≡ size_of (obj_at st t)
  place_size t =
      let ps : List Place = places_of (obj_at st p.table) in
      put_keeps size_of st.slots p.table.0 t.0 (table (set ps p.entry x)) free
      (ap (λ (n : ℕ). slots_for (32 * n)) (length-set ps p.entry x) ∙ ap size_of (sym (is_table (obj_at st p.table) p.entry h)))

  pub place_tag : (t : Slot) → tag_of (obj_at (put_place st p x) t) ≡ tag_of (obj_at st t)
  place_tag t =
      put_keeps tag_of st.slots p.table.0 t.0 (table (set (places_of (obj_at st p.table)) p.entry x)) free
      (ap tag_of (sym (is_table (obj_at st p.table) p.entry h)))

-- ---- a run of slots replaced
module _ {A : Type 0} (d : A) (v l : List A) (n : ℕ) (fits : n + length v ≤ length l) where
  pub splice_below : (i : ℕ) → i < n → get_or (splice n v l) i d ≡ get_or l i d
  unfolding splice
  splice_below i h =
      get_or-append (take n l) (v ++ drop (n + length v) l) d i (omega (arith, length-take-le n l (omega arith))) ∙ get_or-take n l i d h

  behind : (j : ℕ) → get_or (splice n v l) (n + j) d ≡ get_or (v ++ drop (n + length v) l) j d
  unfolding splice
  behind j =
      ap (λ (k : ℕ). get_or (take n l ++ (v ++ drop (n + length v) l)) (k + j) d) (sym (length-take-le n l (omega arith)))
      ∙ get_or-append-add (take n l) (v ++ drop (n + length v) l) j d

  pub splice_in : (j : ℕ) → j < length v → get_or (splice n v l) (n + j) d ≡ get_or v j d
  splice_in j h = behind j ∙ get_or-append v (drop (n + length v) l) d j h

  pub splice_above : (i : ℕ) → n + length v ≤ i → get_or (splice n v l) i d ≡ get_or l i d
  splice_above i h =
      let j : ℕ = i - (n + length v) in
      let e : n + (length v + j) ≡ i = omega arith in
      let f : n + length v + j ≡ i = omega arith in
      ap (λ (k : ℕ). get_or (splice n v l) k d) (sym e) ∙ behind (length v + j) ∙ get_or-append-add v (drop (n + length v) l) j d ∙ get_or-drop (n + length v) l j d
      ∙ ap (λ (k : ℕ). get_or l k d) f

  -- an element of the old list that the run did not take stays
  pub splice_stays : (i : ℕ) → ((j : ℕ) → j < length v → i ≡ n + j → ⊥) → get_or (splice n v l) i d ≡ get_or l i d
  splice_stays i out = low (ltb i n) refl
    where
      high : (b : Bool) → ltb i (n + length v) ≡ b → n ≤ i → get_or (splice n v l) i d ≡ get_or l i d
      high true e h = let below = ltb-true i (n + length v) e in absurd (out (i - n) (omega arith) (omega arith))
      high false e h = splice_above i (ltb-false i (n + length v) e)

      low : (b : Bool) → ltb i n ≡ b → get_or (splice n v l) i d ≡ get_or l i d
      low true e = splice_below i (ltb-true i n e)
      low false e = high (ltb i (n + length v)) refl (ltb-false i n e)

-- ---- a new object: in its first slot, in its others, and elsewhere
module _ (st : State) (s : Slot) (o : Object) (some : 1 ≤ size_of o) (fits : s.0 + size_of o ≤ length st.slots) where
  risen_fits : s.0 + length (risen s o) ≤ length st.slots
  risen_fits = omega (arith, risen_length s o some)

  pub raise_first : obj_at (raise st s o) s ≡ o
  raise_first =
      ap (λ (i : ℕ). get_or (splice s.0 (risen s o) st.slots) i free) (sym (add-zero s.0)) ∙ splice_in free (risen s o) st.slots s.0 risen_fits 0 (omega arith)

  pub raise_part : (j : ℕ) → suc j < size_of o → obj_at (raise st s o) (slot (s.0 + suc j)) ≡ body s
  raise_part j l =
      splice_in free (risen s o) st.slots s.0 risen_fits (suc j) (omega (arith, risen_length s o some)) ∙ get_or-replicate (size_of o - 1) j (body s) free (omega arith)

  pub raise_apart : (k : ℕ) → ((j : ℕ) → j < size_of o → k ≡ s.0 + j → ⊥) → obj_at (raise st s o) (slot k) ≡ obj_at st (slot k)
  raise_apart k d = splice_stays free (risen s o) st.slots s.0 risen_fits k (λ j l e. d j (omega (arith, risen_length s o some)) e)

  pub raise_length : length (raise st s o).slots ≡ length st.slots
  raise_length = length_splice st.slots (risen s o) s.0 risen_fits

  -- where its slots were free, each object stays
  pub raise_stays : ((i : ℕ) → i < size_of o → obj_at st (slot (s.0 + i)) ≡ free) → (t : Slot) → (tag_of (obj_at st t) ≡ 0 → ⊥) → obj_at (raise st s o) t ≡ obj_at st t
  raise_stays none t h = raise_apart t.0 (λ j l e. h (ap (λ (i : ℕ). tag_of (get_or st.slots i free)) e ∙ ap tag_of (none j l)))

-- ---- the object at s deleted: in its slots, and elsewhere
module _ (st : State) (s : Slot) (fits : s.0 + size_of (obj_at st s) ≤ length st.slots) where
  abbrev n : ℕ
  n = size_of (obj_at st s)

  long : length (replicate n free) ≡ n
  long = length-replicate n free

  pub raze_free : (j : ℕ) → j < size_of (obj_at st s) → obj_at (raze st s) (slot (s.0 + j)) ≡ free
  raze_free j l = splice_in free (replicate n free) st.slots s.0 (omega (arith, long)) j (omega (arith, long)) ∙ get_or-replicate n j free free l

  pub raze_apart : (k : ℕ) → ((j : ℕ) → j < size_of (obj_at st s) → k ≡ s.0 + j → ⊥) → obj_at (raze st s) (slot k) ≡ obj_at st (slot k)
  raze_apart k d = splice_stays free (replicate n free) st.slots s.0 (omega (arith, long)) k (λ j l e. d j (omega (arith, long)) e)
