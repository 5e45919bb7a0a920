-- The layout after a place is written and after an object is raised or razed: "objects lie in kernel memory and don't overlap" stays so.
use mathlib.Core.Path.{◌≡◌, refl, sym, ◌∙◌, ap, subst}
use mathlib.Core.Bool.{true, false, false≢true}
use mathlib.Core.List.{List, [], ◌∷◌, ◌++◌}
use Prim.Native.Nat.{ℕ, zero, suc, ◌+◌, ◌*◌, ◌-◌, ◌<◌, ◌≤◌}
use native.Mathlib.Nat.{not-suc-le-zero, le_of_suc-le-suc, zero-add, suc-add, add-zero}
use native.Mathlib.Omega.{arith}
use lib.ListN.{length, get_or, take, drop, set, replicate, length-replicate, length-set, length-drop}
use lib.Seq.{get_or-drop}
use borrow.Author.Tests.{eq-eqb}
use Rattle.words.specs.Sizes.{slots_for}
use Rattle.words.specs.Fields.{slot}
use Rattle.state.specs.Names.{Slot, Spot, Place}
use Rattle.state.specs.State.{Object, free, body, table, directory, process, endpoint, State, size_of, places_of, obj_at, entries_in, splice, with_slots, put, put_place, risen, raise, raze}
use Rattle.state.specs.Layout.{goes_on, lay, Laid}
use Rattle.state.specs.Bytes.{tag_of}
use Rattle.state.proofs.Pieces.{length_splice}
use Rattle.state.proofs.Sizes.{lay_zero, lay_suc, goes_none, lay_set}
use Rattle.state.proofs.Write.{is_table}
use Rattle.state.proofs.Run.{risen_length, object_some, object_fits}

-- ---- one step of the layout, made
lay_on : (k m : ℕ) (h : Slot) (o : Object) (os : List Object) → size_of o ≡ suc m → lay (suc k) m (slot k) os ≡ true → lay k zero h (o ∷ os) ≡ true
unfolding lay
lay_on k m h o os e l = rw (e, lay) l

lay_in : (k c : ℕ) (h : Slot) (o : Object) (os : List Object) → goes_on h o ≡ true → lay (suc k) c h os ≡ true → lay k (suc c) h (o ∷ os) ≡ true
unfolding lay
lay_in k c h o os e l = rw (e, lay) l

-- where nothing is owed, the object behind does not count
lay_any : (k : ℕ) (g h : Slot) (xs : List Object) → lay k 0 g xs ≡ lay k 0 h xs
unfolding lay
lay_any k g h [] = refl
lay_any k g h (o ∷ os) = refl

-- ---- the later slots of an object, put in front and taken off
lay_bodies : (m k : ℕ) (g : Slot) (ys : List Object) → lay (k + m) 0 g ys ≡ true → lay k m g (replicate m (body g) ++ ys) ≡ true
lay_bodies zero k g ys l = rw (add-zero k) at l
lay_bodies (suc m) k g ys l =
    let e : k + suc m ≡ suc k + m = omega arith in
    lay_in k m g (body g) (replicate m (body g) ++ ys) (eq-eqb g.0 g.0 refl) (lay_bodies m (suc k) g ys (rw e at l))

lay_unbody : (m k : ℕ) (g : Slot) (xs : List Object) → lay k m g xs ≡ true → lay (k + m) 0 g (drop m xs) ≡ true
unfolding lay
lay_unbody zero k g xs l = rw (add-zero k) l
lay_unbody (suc m) k g [] l = absurd (false≢true l)
lay_unbody (suc m) k g (o ∷ os) l =
    let e : k + suc m ≡ suc k + m = omega arith in
    rw e (lay_unbody m (suc k) g os (lay_suc k m g o os l).1)

-- ---- free slots, put in front and taken off
lay_freed : (n k : ℕ) (h : Slot) (ys : List Object) → lay (k + n) 0 h ys ≡ true → lay k 0 h (replicate n free ++ ys) ≡ true
lay_freed zero k h ys l = rw (add-zero k) at l
lay_freed (suc n) k h ys l =
    let e : k + suc n ≡ suc k + n = omega arith in
    lay_on k 0 h free (replicate n free ++ ys) refl (lay_any (suc k) (slot k) h (replicate n free ++ ys) ∙ lay_freed n (suc k) h ys (rw e at l))

lay_frees : (n k : ℕ) (h : Slot) (xs : List Object) → lay k 0 h xs ≡ true → ((j : ℕ) → j < n → get_or xs j free ≡ free) → n ≤ length xs → lay (k + n) 0 h (drop n xs) ≡ true
lay_frees zero k h xs l f n = rw (add-zero k) l
lay_frees (suc n) k h [] l f r = absurd (not-suc-le-zero r)
lay_frees (suc n) k h (o ∷ os) l f r =
    let s = lay_zero k h o os l in
    let one : size_of o ≡ 1 = ap size_of (f 0 (omega arith)) in
    let z : s.0 ≡ 0 = omega (arith, s.1) in
    let e : k + suc n ≡ suc k + n = omega arith in
    let l₁ : lay (suc k) 0 (slot k) os ≡ true = subst (λ (i : ℕ). lay (suc k) i (slot k) os ≡ true) z s.2 in
    rw e (lay_frees n (suc k) h os (lay_any (suc k) h (slot k) os ∙ l₁) (λ j q. f (suc j) (omega arith)) (le_of_suc-le-suc r))

-- ---- a run replaced from a slot on that is no later slot: the layout is that of the run and what follows it
splice_suc : (x : Object) (xs ys : List Object) (i : ℕ) → splice (suc i) ys (x ∷ xs) ≡ x ∷ splice i ys xs
unfolding splice
splice_suc x xs ys i = ap (λ (n : ℕ). x ∷ (take i xs ++ (ys ++ drop n (x ∷ xs)))) (suc-add i (length ys))

lay_run : (xs ys : List Object) (k c : ℕ) (h : Slot) (i a : ℕ) → k + i ≡ a → lay k c h xs ≡ true → i < length xs → (tag_of (get_or xs i free) ≡ 1 → ⊥)
    → ((g : Slot) → lay a 0 g (drop i xs) ≡ true → lay a 0 g (ys ++ drop (length ys) (drop i xs)) ≡ true) → lay k c h (splice i ys xs) ≡ true
unfolding splice
lay_run [] ys k c h i a e l hi hb f = absurd (not-suc-le-zero hi)
lay_run (x ∷ xs) ys k (suc c) h zero a e l hi hb f = absurd (hb (goes_none h x (lay_suc k c h x xs l).0).1)
lay_run (x ∷ xs) ys k zero h zero a e l hi hb f =
    let z : k ≡ a = omega arith in
    rw (z, zero-add (length ys)) (f h (rw z at l))
lay_run (x ∷ xs) ys k zero h (suc i) a e l hi hb f =
    let t = lay_zero k h x xs l in
    ap (lay k zero h) (splice_suc x xs ys i)
    ∙ lay_on k t.0 h x _ t.1 (lay_run xs ys (suc k) t.0 (slot k) i a (omega arith) t.2 (le_of_suc-le-suc hi) hb f)
lay_run (x ∷ xs) ys k (suc c) h (suc i) a e l hi hb f =
    let t = lay_suc k c h x xs l in
    ap (lay k (suc c) h) (splice_suc x xs ys i)
    ∙ lay_in k c h x _ t.0 (lay_run xs ys (suc k) c h i a (omega arith) t.1 (le_of_suc-le-suc hi) hb f)

goes_not : (g : Slot) (o : Object) → (tag_of o ≡ 1 → ⊥) → goes_on g o ≡ false
goes_not g free h = refl
goes_not g (body f) h = absurd (h refl)
goes_not g (table ps) h = refl
goes_not g (directory s es) h = refl
goes_not g (process t d) h = refl
goes_not g (endpoint c b) h = refl

-- ---- a laid-out state
module _ (st : State) (w : Laid st) where
  -- an object replaced by one of the same size
  pub laid_put : (k : Slot) (o : Object) → (tag_of o ≡ 1 → ⊥) → (tag_of (obj_at st k) ≡ 1 → ⊥) → size_of o ≡ size_of (obj_at st k) → Laid (put st k o)
  laid_put k o new old size =
      record {
        room = length-set st.slots k.0 o ∙ w.room;
        laid = lay_set st.slots k.0 0 0 (slot 0) o size (λ g. goes_not g o new ∙ sym (goes_not g (obj_at st k) old)) ∙ w.laid;
      }

  pub laid_place : (p : Spot) (x : Place) → p.entry < entries_in st p.table → Laid (put_place st p x)
  laid_place p x h =
      let ps : List Place = places_of (obj_at st p.table) in
      let is : obj_at st p.table ≡ table ps = is_table (obj_at st p.table) p.entry h in
      laid_put p.table (table (set ps p.entry x)) (λ z. omega arith) (λ z. omega (arith, ap tag_of is))
      (ap (λ (n : ℕ). slots_for (32 * n)) (length-set ps p.entry x) ∙ ap size_of (sym is))

  laid_run : (k : ℕ) (ys : List Object) → k < 256 → (tag_of (get_or st.slots k free) ≡ 1 → ⊥) → k + length ys ≤ 256
      → ((g : Slot) → lay k 0 g (drop k st.slots) ≡ true → lay k 0 g (ys ++ drop (length ys) (drop k st.slots)) ≡ true) → Laid (with_slots st (splice k ys st.slots))
  laid_run k ys hk hb hn f =
      record {
        room = length_splice st.slots ys k (omega (arith, w.room)) ∙ w.room;
        laid = lay_run st.slots ys 0 0 (slot 0) k k (zero-add k) w.laid (omega (arith, w.room)) hb f;
      }

  -- a new object where all its slots are free
  pub laid_raise : (s : Slot) (o : Object) → 1 ≤ size_of o → s.0 + size_of o ≤ 256 → ((i : ℕ) → i < size_of o → obj_at st (slot (s.0 + i)) ≡ free) → Laid (raise st s o)
  laid_raise s o some room none =
      let n : ℕ = size_of o in
      let m : ℕ = n - 1 in
      let rest : List Object = drop s.0 st.slots in
      let long : length (risen s o) ≡ n = risen_length s o some in
      let size : n ≡ suc m = omega arith in
      let next : s.0 + n ≡ suc s.0 + m = omega arith in
      let first : obj_at st s ≡ free = ap (λ (i : ℕ). get_or st.slots i free) (sym (add-zero s.0)) ∙ none 0 some in
      laid_run s.0 (risen s o) (omega arith) (λ z. omega (arith, ap tag_of first)) (omega arith)
      (λ g l.
      let after : lay (s.0 + n) 0 g (drop n rest) ≡ true =
      lay_frees n s.0 g rest l (λ j q. get_or-drop s.0 st.slots j free ∙ none j q) (omega (arith, length-drop s.0 st.slots, w.room)) in
      lay_on s.0 m g o (replicate m (body s) ++ drop (length (risen s o)) rest) size
      (lay_bodies m (suc s.0) s (drop (length (risen s o)) rest) (rw (long, ← next) (lay_any (s.0 + n) s g (drop n rest) ∙ after))))

  -- "Freed slots are zeroed and may be used at once"
  pub laid_raze : (s : Slot) → 2 ≤ tag_of (obj_at st s) → Laid (raze st s)
  laid_raze s tag =
      let n : ℕ = size_of (obj_at st s) in
      let rest : List Object = drop s.0 st.slots in
      let fits = object_fits st w s tag in
      let some = object_some st w s tag in
      let first : get_or rest 0 free ≡ obj_at st s = get_or-drop s.0 st.slots 0 free ∙ ap (λ (i : ℕ). get_or st.slots i free) (add-zero s.0) in
      laid_run s.0 (replicate n free) (omega arith) (λ z. omega arith) (omega (arith, length-replicate n free))
      (λ g l. rw (length-replicate n free) (lay_freed n s.0 g (drop n rest) (go g rest first (omega (arith, w.room, length-drop s.0 st.slots)) l)))
    where
      go : (g : Slot) (xs : List Object) → get_or xs 0 free ≡ obj_at st s → 0 < length xs → lay s.0 0 g xs ≡ true
          → lay (s.0 + size_of (obj_at st s)) 0 g (drop (size_of (obj_at st s)) xs) ≡ true
      go g [] e h l = absurd (not-suc-le-zero h)
      go g (o ∷ os) e h l =
          let t = lay_zero s.0 g o os l in
          let size : size_of (obj_at st s) ≡ suc t.0 = ap size_of (sym e) ∙ t.1 in
          let next : s.0 + suc t.0 ≡ suc s.0 + t.0 = omega arith in
          rw (size, next) (lay_any (suc s.0 + t.0) g s (drop t.0 os) ∙ lay_unbody t.0 (suc s.0) s os t.2)
