-- A place of a table, written: the other places are as they were, each right stands where its parent does, and the counts of roots
-- change by what the place held and holds.
use mathlib.Core.Bool.{true}
use mathlib.Core.List.{List}
use mathlib.Core.Logic.{◌≢◌}
use mathlib.Core.Path.{◌∙◌, ◌≡◌, ap, ap₂, fun_ext, refl, subst, sym}
use Prim.Native.Nat.{◌*◌, ◌+◌, ◌<◌, ℕ}
use native.Mathlib.Decide.{ℕ_discrete}
use native.Mathlib.Nat.{zero-add}
use native.Mathlib.Omega.{arith}
use lib.Dec.{leb}
use lib.ListN.{get_or, length, length-set, set}
use lib.Seq.{get_or-set_other, get_or-set_same}
use Rattle.rules.proofs.Inside.{entries_in_lem}
use Rattle.rules.specs.Formed.{Formed}
use Rattle.rules.specs.WellFormed.{is_root_of, object_ok, one, right, right_ok, roots_of}
use Rattle.state.proofs.LaidAfter.{laid_place}
use Rattle.state.proofs.Write.{is_table}
use Rattle.state.specs.Layout.{Laid}
use Rattle.state.specs.State.{Object, State, entries_in, obj_at, place_at, place_number, place_numbered, places_of, put_place, spot_numbered, table}
use Rattle.words.proofs.Tests.{sum_more, sum_same}
use Rattle.words.specs.Fields.{slot}
use Rattle.words.specs.Sizes.{slots_for}
use Rattle.words.specs.Tests.{◌&◌, sum_below}
use Rattle.kept.specs.Names.{None, Capability, Some, Place, Slot, Spot}
use Rattle.kept.proofs.Base.{Base}
use Rattle.kept.proofs.Descent.{Fits, fits_fresh}
use Rattle.kept.proofs.Put.{put_here, put_like, put_there}
use Rattle.kept.proofs.Roots.{formed_same}
use Rattle.kept.proofs.Slots.{number_spot, numbered}
use Rattle.kept.proofs.Stay.{Like, object_alike, right_alike, spot_alike}

-- this place, or another
data Where (t e s k : ℕ) : Type 0 where
  this : s ≡ t → k ≡ e → Where t e s k
  other : (s ≡ t → k ≡ e → ⊥) → Where t e s k

where_is : (t e s k : ℕ) → Where t e s k
where_is t e s k = go (ℕ_discrete s t) (ℕ_discrete k e)
  where
    go : Dec (s ≡ t) → Dec (k ≡ e) → Where t e s k
    go (yes p) (yes q) = this p q
    go (yes p) (no n) = other (λ a b. n b)
    go (no n) q = other (λ a b. n a)

module _ (st : State) (w : Base st) (p : Spot) (x : Place) (he : p.entry < entries_in st p.table) where
  abbrev t : Slot
  t = p.table

  abbrev e : ℕ
  e = p.entry

  abbrev st' : State
  st' = put_place st p x

  abbrev ps : List Place
  ps = places_of (obj_at st t)

  abbrev new : Object
  new = table (set ps e x)

  was : obj_at st t ≡ table ps
  was = is_table (obj_at st t) e he

  new_like : Like new (obj_at st t)
  new_like = subst (λ (y : Object). Like new y) (sym was)
      (record { number = refl; entries = length-set ps e x; positions = refl; shape = refl; first = λ k. refl; size = ap (λ (n : ℕ). slots_for (32 * n)) (length-set ps e x) })

  pub place_put : obj_at st' t ≡ new
  place_put = put_here st w.laid t new (entries_in_lem st w.laid t e he) new_like

  pub place_apart : (k : ℕ) → k ≢ t.0 → obj_at st' (slot k) ≡ obj_at st (slot k)
  place_apart = put_there st w.laid t new (entries_in_lem st w.laid t e he) new_like

  pub place_like : (k : ℕ) → Like (obj_at st' (slot k)) (obj_at st (slot k))
  place_like = put_like st w.laid t new (entries_in_lem st w.laid t e he) new_like

  place_laid : Laid st'
  place_laid = laid_place st w.laid p x he

  -- ---- the places
  place_here : place_at st' t e ≡ x
  place_here = ap (λ (o : Object). get_or (places_of o) e None) place_put ∙ get_or-set_same ps e x None he

  place_there : (s k : ℕ) → (s ≡ t.0 → k ≡ e → ⊥) → place_at st' (slot s) k ≡ place_at st (slot s) k
  place_there s k n = pick (ℕ_discrete s t.0)
    where
      pick : Dec (s ≡ t.0) → place_at st' (slot s) k ≡ place_at st (slot s) k
      pick (yes q) = subst (λ (i : ℕ). place_at st' (slot i) k ≡ place_at st (slot i) k) (sym q) (ap (λ (o : Object). get_or (places_of o) k None) place_put ∙ get_or-set_other ps e k x None (n q))
      pick (no m) = ap (λ (o : Object). get_or (places_of o) k None) (place_apart s m)

  -- the same by the numbers of places
  pub new_numbered : place_numbered st' (place_number p) ≡ x
  new_numbered = numbered st' place_laid p (subst (λ (n : ℕ). e < n) (sym (place_like t.0).entries) he) ∙ place_here

  pub but_numbered : (n : ℕ) → n ≢ place_number p → place_numbered st' n ≡ place_numbered st n
  but_numbered n d =
      ap (λ (p : Spot). place_at st' p.table p.entry) (spot_alike st st' place_like n)
      ∙ place_there (spot_numbered st n).table.0 (spot_numbered st n).entry (λ a b. d (omega (arith, number_spot st w.laid n, a, b)))

  -- where it was blank, each right fits under its parent as it did
  pub fits_filled : place_at st t e ≡ None → (c : Capability) (n : ℕ) → Fits st c n → Fits st' c n
  fits_filled blank = fits_fresh st st' (place_number p) but_numbered (numbered st w.laid p he ∙ blank)

  -- ---- rights and objects
  -- a right that fits under its parent as it did
  pub right_keep : (c : Capability) → ((p : ℕ) → c.origin ≡ Some p → Fits st c p → Fits st' c p) → right_ok st c ≡ true → right_ok st' c ≡ true
  right_keep = right_alike st st' place_like place_laid

  table_ok : (qs rs : List Place) → length qs ≡ length rs → object_ok st t (table qs) ≡ object_ok st t (table rs)
  unfolding object_ok
  table_ok qs rs q = ap (λ (n : ℕ). leb 1 n & leb n 64) q

  -- the new right stands, and each other one does
  abbrev KeptRights : Type 0
  KeptRights = (s i : ℕ) (c : Capability) → place_at st (slot s) i ≡ Some c → right_ok st c ≡ true → (p : ℕ) → c.origin ≡ Some p → Fits st c p → Fits st' c p

  pub place_base : right (right_ok st') x ≡ true → KeptRights → Base st'
  place_base ok keep =
      record {
        laid = place_laid;
        rights = λ s hs i hi. at s i (w.rights s hs i (subst (λ (n : ℕ). i < n) (place_like s).entries hi)) (where_is t.0 e s i);
        objects = λ s hs. object_alike st st' place_like (slot s) (obj_at st' (slot s)) (object s hs (ℕ_discrete s t.0));
      }
    where
      old : (s i : ℕ) (p : Place) → place_at st (slot s) i ≡ p → right (right_ok st) p ≡ true → right (right_ok st') p ≡ true
      old s i None q h = refl
      old s i (Some c) q h = right_keep c (keep s i c q h) h

      at : (s i : ℕ) → right (right_ok st) (place_at st (slot s) i) ≡ true → Where t.0 e s i → right (right_ok st') (place_at st' (slot s) i) ≡ true
      at s i h (this p q) = subst (λ (a : ℕ). right (right_ok st') (place_at st' (slot a) i) ≡ true) (sym p)
          (subst (λ (a : ℕ). right (right_ok st') (place_at st' t a) ≡ true) (sym q) (ap (right (right_ok st')) place_here ∙ ok))
      at s i h (other n) = ap (right (right_ok st')) (place_there s i n) ∙ old s i (place_at st (slot s) i) refl h

      object : (s : ℕ) → s < 256 → Dec (s ≡ t.0) → object_ok st (slot s) (obj_at st' (slot s)) ≡ true
      object s hs (yes q) = subst (λ (i : ℕ). object_ok st (slot i) (obj_at st' (slot i)) ≡ true) (sym q)
          (ap (object_ok st t) place_put ∙ table_ok (set ps e x) ps (length-set ps e x) ∙ sym (ap (object_ok st t) was) ∙ w.objects t.0 (rw q at hs))
      object s hs (no n) = ap (object_ok st (slot s)) (place_apart s n) ∙ w.objects s hs

  -- ---- the roots
  -- the count where one state's place holds nothing, and the other's holds y
  count : (a b : State) (y : Place) → ((s : ℕ) → entries_in a (slot s) ≡ entries_in b (slot s)) → t.0 < 256 → e < entries_in b t
      → ((s i : ℕ) → (s ≡ t.0 → i ≡ e → ⊥) → place_at a (slot s) i ≡ place_at b (slot s) i)
      → place_at b t e ≡ None → place_at a t e ≡ y → (k : ℕ) (o : Slot) → roots_of a k o ≡ roots_of b k o + one (is_root_of k o y)
  unfolding roots_of
  count a b y long ht hb there blank is k o =
      sum_more 256 _ _ t.0 (one (is_root_of k o y)) ht
      (ap (λ (n : ℕ). sum_below n (λ i. one (is_root_of k o (place_at a t i)))) (long t.0)
      ∙ sum_more (entries_in b t) _ _ e (one (is_root_of k o y)) hb
      (ap (λ (z : Place). one (is_root_of k o z)) is ∙ sym (zero-add (one (is_root_of k o y))) ∙ sym (ap (λ (z : Place). one (is_root_of k o z) + one (is_root_of k o y)) blank))
      (λ i n. ap (λ (z : Place). one (is_root_of k o z)) (there t.0 i (λ _ q. n q))))
      (λ s n. ap₂ sum_below (long s) (fun_ext (λ i. ap (λ (z : Place). one (is_root_of k o z)) (there s i (λ q _. n q)))))

  -- where the place held nothing, the count grows by what it holds now
  pub roots_more : place_at st t e ≡ None → (k : ℕ) (o : Slot) → roots_of st' k o ≡ roots_of st k o + one (is_root_of k o x)
  roots_more blank = count st' st x (λ s. (place_like s).entries) (entries_in_lem st w.laid t e he) he place_there blank place_here

  -- where it holds nothing now, the count shrinks by what it held
  pub roots_less : x ≡ None → (k : ℕ) (o : Slot) → roots_of st k o ≡ roots_of st' k o + one (is_root_of k o (place_at st t e))
  roots_less blank =
      count st st' (place_at st t e) (λ s. sym (place_like s).entries) (entries_in_lem st w.laid t e he)
      (subst (λ (n : ℕ). e < n) (sym (place_like t.0).entries) he) (λ s i n. sym (place_there s i n)) (place_here ∙ blank) refl

  -- where it is a root of what it was a root of, the counts are as they were
  module _ (f : Formed st) (same : (k : ℕ) (o : Slot) → is_root_of k o x ≡ is_root_of k o (place_at st t e)) where
    root_same : (k : ℕ) (o : Slot) (s i : ℕ) → is_root_of k o (place_at st' (slot s) i) ≡ is_root_of k o (place_at st (slot s) i)
    root_same k o s i = pick (where_is t.0 e s i)
      where
        pick : Where t.0 e s i → is_root_of k o (place_at st' (slot s) i) ≡ is_root_of k o (place_at st (slot s) i)
        pick (this p q) = subst (λ (a : ℕ). is_root_of k o (place_at st' (slot a) i) ≡ is_root_of k o (place_at st (slot a) i)) (sym p)
            (subst (λ (a : ℕ). is_root_of k o (place_at st' t a) ≡ is_root_of k o (place_at st t a)) (sym q) (ap (is_root_of k o) place_here ∙ same k o))
        pick (other n) = ap (is_root_of k o) (place_there s i n)

    roots_same : (k : ℕ) (o : Slot) → roots_of st' k o ≡ roots_of st k o
    unfolding roots_of
    roots_same k o = sum_same 256 _ _ (λ s. ap₂ sum_below (place_like s).entries (fun_ext (λ i. ap one (root_same k o s i))))

    pub place_formed : right (right_ok st') x ≡ true → KeptRights → Formed st'
    place_formed ok keep = formed_same st st' f (place_base ok keep) (λ s. (place_like s).number) roots_same
