-- A creation and a deletion write two things: the slots of an object, and the place that holds its root.
use mathlib.Core.Path.{◌≡◌, ◌∙◌, ap}
use mathlib.Core.List.{List}
use Prim.Native.Nat.{ℕ, ◌+◌, ◌*◌, ◌<◌, ◌≤◌}
use native.Mathlib.Omega.{arith}
use lib.ListN.{replicate}
use Rattle.state.specs.Names.{Slot, Spot, Place}
use Rattle.state.specs.State.{Object, State, size_of, obj_at, entries_in, splice, put_place, raise, raze}
use Rattle.state.specs.Layout.{Laid}
use Rattle.state.specs.Bytes.{place_bytes, tag_of, bytes}
use Rattle.state.proofs.Write.{is_table, bytes_place}
use Rattle.state.proofs.Run.{bytes_raze}
use Rattle.state.proofs.LaidAfter.{laid_place, laid_raise}
use Rattle.state.proofs.Elsewhere.{place_size, place_tag, raise_stays}
use Rattle.state.proofs.New.{Vacant}

module _ (st : State) (w : Laid st) (p : Spot) (x : Place) (h : p.entry < entries_in st p.table) where
  -- ---- an object where all its slots are free, and then the place: the table that has the place stands elsewhere
  module _ (s : Slot) (o : Object) (some : 1 ≤ size_of o) (room : Vacant st s (size_of o)) where
    pub laid_raised : Laid (raise st s o)
    laid_raised = laid_raise st w s o some room.fits room.none

    pub raised_entry : p.entry < entries_in (raise st s o) p.table
    raised_entry =
        let tag : tag_of (obj_at st p.table) ≡ 2 = ap tag_of (is_table (obj_at st p.table) p.entry h) in
        let same : obj_at (raise st s o) p.table ≡ obj_at st p.table = raise_stays st s o some (omega (arith, w.room, room.fits)) room.none p.table (λ z. omega arith) in
        rw same h

    pub bytes_create : bytes (put_place (raise st s o) p x) ≡ splice (64 * p.table.0 + 32 * p.entry) (place_bytes x) (bytes (raise st s o))
    bytes_create = bytes_place (raise st s o) laid_raised p x raised_entry

  -- ---- the place, and then the object: it stands as it stood
  module _ (s : Slot) (tag : 2 ≤ tag_of (obj_at st s)) where
    still : 2 ≤ tag_of (obj_at (put_place st p x) s)
    still = omega (arith, place_tag st p x h s)

    pub bytes_delete : bytes (raze (put_place st p x) s)
        ≡ splice (64 * s.0) (replicate (64 * size_of (obj_at st s)) 0)
        (splice (16384 + 4 * s.0) (replicate (4 * size_of (obj_at st s)) 0) (splice (64 * p.table.0 + 32 * p.entry) (place_bytes x) (bytes st)))
    bytes_delete =
        let zeroed : ℕ → List ℕ → List ℕ = λ n b. splice (64 * s.0) (replicate (64 * n) 0) (splice (16384 + 4 * s.0) (replicate (4 * n) 0) b) in
        bytes_raze (put_place st p x) (laid_place st w p x h) s still
        ∙ ap (λ (n : ℕ). zeroed n (bytes (put_place st p x))) (place_size st p x h s)
        ∙ ap (zeroed (size_of (obj_at st s))) (bytes_place st w p x h)
