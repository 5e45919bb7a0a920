-- A good action keeps the invariant and the stretch, and makes objects only in memory rights of the start.
use mathlib.Core.Bool.{false}
use mathlib.Core.Logic.{inl, inr, ◌⊎◌}
use mathlib.Core.Path.{ap, refl, sym, ◌∙◌, ◌≡◌}
use Prim.Native.Nat.{◌+◌, ◌-◌, ◌<◌, ◌^◌, ℕ}
use native.Mathlib.Decide.{ℕ_discrete}
use native.Mathlib.Nat.{not-suc-le-zero}
use native.Mathlib.Omega.{arith}
use lib.ListN.{get_or, replicate, set}
use lib.Seq.{get_or-set_other, get_or-set_same}
use Rattle.rules.specs.Commit.{commit, create, froze}
use Rattle.state.specs.State.{Object, State, boot_mark, directory, directory_named, endpoint, free, obj_at, place_at, places_of, positions_of, process, put, put_place, raise, raze, shape_at, size_of, table, table_named}
use Rattle.words.specs.Fields.{count}
use Rattle.words.specs.Rights.{root_right}
use Rattle.apart.specs.Demand3.{Joined, Made, Same}
use Rattle.apart.specs.Names.{Action, Answer, None, ChangeDirectory, ChangeTable, CreateDirectory, CreateEndpoint, CreateProcess, CreateTable, Delete, Directory, Empty, Endpoint, Fill, Freeze, Some, Kind, Place, Process, Remove, SetCount, SetPosition, Slot, Spot, Table}
use Rattle.apart.specs.Reach.{In, extent, extent_at, form_at, form_of}
use Rattle.apart.proofs.Changes.{put_forms, put_inv, raised_inv, raised_same, raze_cases, razed_inv, razed_same}
use Rattle.apart.proofs.Good.{Good, GoodCreate, GoodDelete, GoodPlace, GoodPut, Kept, Lot}
use Rattle.apart.proofs.Invariant.{Clear, Far, Inv, Safe, SafeAt, joined_same, same_forms, same_trans}
use Rattle.apart.proofs.Objects.{entry_in, size_by_lem, size_by, table_form}
use Rattle.apart.proofs.View.{Out, Put, Raised, Razed, Side, first, in_slot, later, outside, puts, raised, razed, side}

module _ (M : ℕ → ℕ → Type 0) (a b : ℕ) (m_clear : Clear M a b) where
  -- a step that raises nothing makes no caller and no object
  kept : (st r : State) (C R : ℕ → Type 0) → ((x : ℕ) → 0 < extent_at r x → extent_at r x ≡ extent_at st x) → Inv M a b r C R → Same a b st r → Kept M a b st r C
  kept st r C R h i e = record {
    reach = R;
    inv = record { own = λ p c. i.own p (joined_same C st r h p c); rights = i.rights };
    same = e;
    made = λ f m. absurd (let x = m.after in let y = h f x in let z = m.before in omega arith);
  }

  pub idle_kept : (st : State) (C R : ℕ → Type 0) → Inv M a b st C R → Kept M a b st st C
  idle_kept st C R h = kept st st C R (λ x l. refl) h (same_forms a b st st (λ x. refl))

  put_kept : (st : State) (C R : ℕ → Type 0) (s : Slot) (o : Object) → Inv M a b st C R → GoodPut M a b st C R s.0 o → Kept M a b st (put st s o) C
  put_kept st C R s o h g =
      let w : Put st (put st s o) s.0 o = puts st s o g.fits in
      let f = put_forms st (put st s o) s.0 o w g.form in
      kept st (put st s o) C R (λ x l. ap extent (f x)) (put_inv M a b st (put st s o) s.0 o w g.form C R g.own g.places h)
      (same_forms a b st (put st s o) f)

  -- writing a place is putting a table
  place_put : (st : State) (C R : ℕ → Type 0) (p : Spot) (x : Place) → ((t e : ℕ) → R t → SafeAt M a b st R (get_or (places_of (in_slot st t)) e None)) → GoodPlace M a b st R p x
      → GoodPut M a b st C R p.table.0 (table (set (places_of (obj_at st p.table)) p.entry x))
  place_put st C R p x rights g = record {
    form = table_form (obj_at st p.table) p.entry x g.entry;
    own = λ c. tt;
    places = λ q j. go q j (ℕ_discrete j p.entry);
    fits = entry_in st p.table p.entry g.entry;
  }
    where
      go : R p.table.0 → (j : ℕ) → Dec (j ≡ p.entry) → SafeAt M a b st R (get_or (set (places_of (obj_at st p.table)) p.entry x) j None)
      go q j (yes e) = rw (e, get_or-set_same (places_of (obj_at st p.table)) p.entry x None g.entry) g.safe
      go q j (no d) = rw (get_or-set_other (places_of (obj_at st p.table)) p.entry j x None d) (rights p.table.0 j q)

  place_kept : (st : State) (C R : ℕ → Type 0) (p : Spot) (x : Place) → Inv M a b st C R → GoodPlace M a b st R p x → Kept M a b st (put_place st p x) C
  place_kept st C R p x h g = put_kept st C R p.table (table (set (places_of (obj_at st p.table)) p.entry x)) h (place_put st C R p x h.rights g)

  create_kept : (st : State) (C R : ℕ → Type 0) (p : Spot) (s : Slot) (o : Object) (k : Kind) → Inv M a b st C R → GoodCreate M a b st R p s o k → Kept M a b st (create st p s o k) C
  create_kept st C R p s o k h g = record {
    reach = Q;
    inv = record { own = λ u c. inv₂.own u (back u c); rights = inv₂.rights };
    same = same_trans a b st r₁ r₂ (raised_same M a b st r₁ s.0 g.n o w g.extends g.some clear g.vacant) (same_forms a b r₁ r₂ forms);
    made = λ x m. made x m (side s.0 g.n x);
  }
    where
      r₁ : State
      r₁ = raise st s o

      r₂ : State
      r₂ = create st p s o k

      Q : ℕ → Type 0
      Q u = R u ⊎ (u ≡ s.0)

      w : Raised st r₁ s.0 g.n o
      w = raised st s o g.n g.size g.some g.fits

      clear : (x : ℕ) → In a b x → Out s.0 g.n x
      clear x i l q = m_clear g.lot.lo g.lot.hi x g.lot.mem i (omega (arith, g.lot.high)) (omega (arith, g.lot.low))

      t_out : Out s.0 g.n p.table.0
      t_out l q = not-suc-le-zero (rw (g.vacant p.table.0 l q) at g.entry)

      safe : Safe M a b r₁ Q (root_right k)
      safe = record {
        kind = g.kind;
        orig = λ n e x i l q. clear x i (rw g.object at l) (let z : x < s.0 + extent (form_of o) = rw (g.object, w.head) at q in let y = g.extends in omega arith);
      }

      inv₁ : Inv M a b r₁ (Joined C st r₁) Q
      inv₁ = raised_inv M a b st r₁ s.0 g.n o w g.extends g.some clear C R g.empty g.names h

      new : Object
      new = table (set (places_of (obj_at r₁ p.table)) p.entry (Some (root_right k)))

      put₁ : GoodPut M a b r₁ (Joined C st r₁) Q p.table.0 new
      put₁ = place_put r₁ (Joined C st r₁) Q p (Some (root_right k)) inv₁.rights (record { entry = rw (w.rest p.table.0 t_out) g.entry; safe = safe })

      v : Put r₁ r₂ p.table.0 new
      v = puts r₁ p.table new put₁.fits

      forms : (x : ℕ) → form_at r₂ x ≡ form_at r₁ x
      forms = put_forms r₁ r₂ p.table.0 new v put₁.form

      inv₂ : Inv M a b r₂ (Joined C st r₁) Q
      inv₂ = put_inv M a b r₁ r₂ p.table.0 new v put₁.form (Joined C st r₁) Q put₁.own put₁.places inv₁

      back : (u : ℕ) → Joined C st r₂ u → Joined C st r₁ u
      back u (inl q) = inl q
      back u (inr m) = inr (record { before = m.0.before; after = rw (ap extent (forms u)) at m.0.after }, sym (forms u) ∙ m.1)

      made : (x : ℕ) → Made st r₂ x → Side s.0 g.n x → Lot M a b x (extent_at r₂ x)
      made x m (first e) = rw (e, forms s.0, w.head, g.extends) g.lot
      made x m (later l q) = absurd (let z : 0 < 0 = rw (forms x, w.inner x l q) at m.after in omega arith)
      made x m (outside d) = absurd (let z : 0 < extent_at st x = rw (forms x, w.rest x d) at m.after in let y = m.before in omega arith)

  delete_kept : (st : State) (C R : ℕ → Type 0) (p : Spot) (o : Slot) → Inv M a b st C R → GoodDelete M a b st p o → Kept M a b st (raze (put_place st p None) o) C
  delete_kept st C R p o h g =
      kept st r₂ C R sizes (razed_inv M a b r₁ r₂ o.0 w far C R (put_inv M a b st r₁ p.table.0 new v put₁.form C R put₁.own put₁.places h))
      (same_trans a b st r₁ r₂ (same_forms a b st r₁ forms)
      (razed_same M a b r₁ r₂ o.0 w far (λ x l m. rw (forms x) (g.inner x l (rw (forms o.0) at m)))))
    where
      r₁ : State
      r₁ = put_place st p None

      r₂ : State
      r₂ = raze r₁ o

      new : Object
      new = table (set (places_of (obj_at st p.table)) p.entry None)

      put₁ : GoodPut M a b st C R p.table.0 new
      put₁ = place_put st C R p None h.rights (record { entry = g.entry; safe = tt })

      v : Put st r₁ p.table.0 new
      v = puts st p.table new put₁.fits

      forms : (x : ℕ) → form_at r₁ x ≡ form_at st x
      forms = put_forms st r₁ p.table.0 new v put₁.form

      size : size_of (obj_at r₁ o) ≡ extent_at r₁ o.0
      size = size_by_lem (obj_at r₁ o) ∙ ap size_by (forms o.0) ∙ sym (size_by_lem (obj_at st o)) ∙ g.size ∙ sym (ap extent (forms o.0))

      w : Razed r₁ r₂ o.0 (extent_at r₁ o.0)
      w = razed r₁ o (extent_at r₁ o.0) size (rw (v.size, forms o.0) g.fits)

      far : Far a b r₁ o.0
      far x i l q = g.far x i l (rw (forms o.0) at q)

      sizes : (x : ℕ) → 0 < extent_at r₂ x → extent_at r₂ x ≡ extent_at st x
      sizes x l = go (raze_cases M a b r₁ r₂ o.0 w far x)
        where
          go : (in_slot r₂ x ≡ free) ⊎ (in_slot r₂ x ≡ in_slot r₁ x) → extent_at r₂ x ≡ extent_at st x
          go (inl e) = absurd (let z : 0 < 0 = rw e at l in omega arith)
          go (inr e) = ap (λ (y : Object). extent (form_of y)) e ∙ ap extent (forms x)

  pub good_kept : (st : State) (C R : ℕ → Type 0) (x : Action) → Inv M a b st C R → Good M a b st C R x → Kept M a b st (commit st x) C
  good_kept st C R (CreateTable p s n) h g = create_kept st C R p s (table (replicate n None)) (Table s) h g
  good_kept st C R (CreateDirectory p s g) h k = create_kept st C R p s (directory g (replicate (2 ^ g.number) Empty)) (Directory s 0 (2 ^ g.number - 1)) h k
  good_kept st C R (CreateProcess p s t d) h g = create_kept st C R p s (process t d) (Process s) h g
  good_kept st C R (CreateEndpoint p s) h g = create_kept st C R p s (endpoint (count 0) false) (Endpoint s) h g
  good_kept st C R (Delete p o) h g = delete_kept st C R p o h g
  good_kept st C R (Fill p c) h g = place_kept st C R p (Some c) h g
  good_kept st C R (Freeze p) h g = place_kept st C R p (froze st.clock (place_at st p.table p.entry)) h g
  good_kept st C R (Remove p) h g = place_kept st C R p None h g
  good_kept st C R (SetPosition d i x) h g = put_kept st C R d (directory (shape_at st d) (set (positions_of (obj_at st d)) i x)) h g
  good_kept st C R (ChangeTable p t) h g = put_kept st C R p (process t (directory_named (obj_at st p))) h g
  good_kept st C R (ChangeDirectory p d) h g = put_kept st C R p (process (table_named (obj_at st p)) d) h g
  good_kept st C R (SetCount e c n) h g = put_kept st C R e (endpoint c (boot_mark (obj_at st e))) h g
  good_kept st C R (Answer n) h g = idle_kept st C R h
