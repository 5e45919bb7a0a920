-- Every well-formed state is the one that its bytes hold: each field has the room that the bytes give it.
use mathlib.Core.Bool.{false≢true, true}
use mathlib.Core.Path.{subst, ◌≡◌}
use Prim.Native.Nat.{◌<◌, ◌^◌, ℕ, ◌≤◌}
use native.Mathlib.Decide.{dec_lt}
use native.Mathlib.Nat.{le_of_eq, le_trans}
use native.Mathlib.Omega.{arith}
use lib.ListN.{get_or, length}
use lib.Pow.{pow_mono}
use borrow.Author.Tests.{eqb-true, leb-true, ltb-true}
use Rattle.state.proofs.Back.{ObjectFits, PlaceFits, PositionFits, RightFits, read_bytes}
use Rattle.state.proofs.Sizes.{bytes_length}
use Rattle.state.specs.Bytes.{bytes, parent_no}
use Rattle.state.specs.Read.{read}
use Rattle.state.specs.State.{Object, State, body, directory, endpoint, free, obj_at, place_numbered, places_of, positions_in, positions_of, process, table}
use Rattle.words.proofs.Tests.{all_at, and_left, and_right}
use Rattle.words.specs.Fields.{slot}
use Rattle.words.specs.Rights.{all_flags, high_of, low_of, object_of, stamp_of}
use Rattle.words.specs.Sizes.{state_length}
use Rattle.rules.specs.Formed.{Formed}
use Rattle.rules.specs.Names.{None, Capability, Child, Directory, Empty, Endpoint, Frost, Frozen, Function, Geometry, Some, Kind, Memory, Origin, Page, Place, Position, Process, Slot, Table, Thawed}
use Rattle.rules.specs.WellFormed.{descends, ends_ok, geometric, hangs, names, object_ok, parent_fits, position_ok, reaches, right, right_ok, runs, stamp_ok, still, wf}
use Rattle.rules.proofs.Facts.{number_few, right_open, wf_laid, wf_open}
use Rattle.rules.proofs.Inside.{blank_past, free_past, laid_out, stands_inside}
use Rattle.rules.proofs.Named.{top_stands}

module _ (st : State) (w : Formed st) where
  -- a directory has at most 256 positions
  few : (o : Object) (s : Slot) → object_ok st s o ≡ true → length (positions_of o) ≤ 256
  unfolding object_ok
  few free s h = omega arith
  few (body f) s h = omega arith
  few (table ps) s h = omega arith
  few (directory g es) s h =
      let n : length es ≡ 2 ^ g.number = eqb-true _ _ (and_left _ _ (and_right _ _ (and_right _ _ h))) in
      le_trans (le_of_eq n) (pow_mono (number_few g (and_left _ _ h)))
  few (process t d) s h = omega arith
  few (endpoint c b) s h = omega arith

  pub positions_few : (o : Slot) → positions_in st o ≤ 256
  positions_few o = elim (dec_lt o.0 256) [
    | yes l ↦ few (obj_at st o) o (w.objects o.0 l)
    | no l ↦ rw (free_past st (laid_out w) o.0 (omega arith)) (omega arith)
  ]

  -- a parent's place is one of 512
  pub parent_small : (c : Capability) (p : ℕ) → descends st c (Some p) ≡ true → p < 512
  unfolding descends
  parent_small c p h = elim (dec_lt p 512) [
    | yes l ↦ l
    | no l ↦ absurd (false≢true (subst (λ (x : Place). parent_fits c x ≡ true) (blank_past st (laid_out w) p (omega arith)) (and_left (parent_fits c (place_numbered st p)) (reaches (place_numbered st) 512 p) h)))
  ]

  parent_fits_lem : (c : Capability) (o : Origin) → descends st c o ≡ true → parent_no o < 2 ^ 32
  parent_fits_lem c None h = omega arith
  parent_fits_lem c (Some p) h = omega (arith, parent_small c p h)

  stamp_fits : (f : Frost) → stamp_ok f ≡ true → stamp_of f < 2 ^ 32
  stamp_fits Thawed h = omega arith
  stamp_fits (Frozen s) h = ltb-true _ _ h

  pub object_inside : (k : Kind) → names st k ≡ true → (object_of k).0 < 256
  unfolding names
  object_inside (Table o) h = stands_inside st (laid_out w) o 0 (eqb-true _ _ h)
  object_inside (Directory o l u) h = stands_inside st (laid_out w) o 1 (eqb-true _ _ h)
  object_inside (Memory l u) h = omega arith
  object_inside (Process o) h = stands_inside st (laid_out w) o 3 (eqb-true _ _ h)
  object_inside (Endpoint o) h = stands_inside st (laid_out w) o 4 (eqb-true _ _ h)
  object_inside (Function l u) h = omega arith

  ends_fit : (k : Kind) → ends_ok st k ≡ true → (low_of k < 2 ^ 32) × (high_of k < 2 ^ 32)
  unfolding ends_ok
  ends_fit (Table o) h = (omega arith, omega arith)
  ends_fit (Directory o l u) h =
      let low : l < positions_in st o = ltb-true _ _ (and_left _ _ h) in
      let high : u < positions_in st o = ltb-true _ _ (and_right _ _ h) in
      (omega (arith, positions_few o), omega (arith, positions_few o))
  ends_fit (Memory l u) h =
      let low : l.0 < 0x20004000 = ltb-true _ _ (and_left _ _ (and_right _ _ h)) in
      let high : u.0 ≤ 0x20004000 = leb-true _ _ (and_left _ _ (and_right _ _ (and_right _ _ (and_right _ _ (and_right _ _ h))))) in
      (omega arith, omega arith)
  ends_fit (Process o) h = (omega arith, omega arith)
  ends_fit (Endpoint o) h = (omega arith, omega arith)
  ends_fit (Function l u) h =
      let low : l < 65536 = ltb-true _ _ (and_left _ _ h) in
      let high : u < 65536 = ltb-true _ _ (and_right _ _ h) in
      (omega arith, omega arith)

  flags_few : (k : Kind) → all_flags k ≤ 255
  flags_few (Table o) = omega arith
  flags_few (Directory o l u) = omega arith
  flags_few (Memory l u) = omega arith
  flags_few (Process o) = omega arith
  flags_few (Endpoint o) = omega arith
  flags_few (Function l u) = omega arith

  right_fits : (c : Capability) → right_ok st c ≡ true → RightFits c
  right_fits c h =
      let r = right_open st c h in
      let e = ends_fit c.kind r.ends in
      record {
        flags = omega (arith, r.flags, flags_few c.kind);
        object = object_inside c.kind r.stands;
        low = e.0;
        high = e.1;
        stamp = stamp_fits c.frost r.stamp;
        parent = parent_fits_lem c c.origin r.descent;
      }

  place_fits : (p : Place) → right (right_ok st) p ≡ true → PlaceFits p
  place_fits None h = tt
  place_fits (Some c) h = right_fits c h

  position_fits : (g : Geometry) (e : Position) → position_ok st g e ≡ true → PositionFits e
  unfolding position_ok hangs
  position_fits g Empty h = tt
  position_fits g (Page f x) h = ltb-true _ _ (and_left _ _ (and_right _ _ h))
  position_fits g (Child o x) h = stands_inside st (laid_out w) o 1 (eqb-true _ _ (and_left _ _ (and_left _ _ h)))

  object_fits : (o : Object) (s : Slot) → object_ok st s o ≡ true → ((e : ℕ) → e < length (places_of o) → right (right_ok st) (get_or (places_of o) e None) ≡ true) → ObjectFits o
  unfolding object_ok geometric runs
  object_fits free s h f = tt
  object_fits (body b) s h f = tt
  object_fits (table ps) s h f = λ k l. place_fits (get_or ps k None) (f k l)
  object_fits (directory g es) s h f =
      let shape = and_left _ _ h in
      let wide : g.size ≤ 31 = leb-true _ _ (and_left _ _ (and_right _ _ shape)) in
      record {
        size = omega arith;
        start = ltb-true _ _ (and_left _ _ (and_right _ _ h));
        number = number_few g shape;
        count = eqb-true _ _ (and_left _ _ (and_right _ _ (and_right _ _ h)));
        each_fits = λ k l. position_fits g (get_or es k Empty) (all_at (length es) (λ i. position_ok st g (get_or es i Empty)) (and_right _ _ (and_right _ _ (and_right _ _ h))) k l);
      }
  object_fits (process t d) s h f = (stands_inside st (laid_out w) t 0 (eqb-true _ _ (and_left _ _ h)), stands_inside st (laid_out w) d 1 (top_stands (obj_at st d) (and_right _ _ h)))
  object_fits (endpoint c b) s h f = ltb-true _ _ h

  pub every_fits : (i : ℕ) → i < 256 → ObjectFits (get_or st.slots i free)
  every_fits i l = object_fits (obj_at st (slot i)) (slot i) (w.objects i l) (λ e q. w.rights i l e q)

-- "Every well-formed state": its bytes have the length, and hold it
pub record Held (st : State) : Type 0 where
  pub size : length (bytes st) ≡ state_length
  pub back : read (bytes st) ≡ st
  pub formed : wf st ≡ true

pub held : (st : State) → wf st ≡ true → Held st
held st h =
    let w = wf_open st h in
    let l = wf_laid st h in
    record { size = bytes_length st l; back = read_bytes st l (every_fits (still st) w.shape) w.time; formed = h }
