-- What each writer leaves in a sound buffer is the bytes of the state after the action: the laws of `state`, said of the buffer.
use mathlib.Core.Bool.{true, false}
use mathlib.Core.List.{List}
use mathlib.Core.Path.{◌≡◌, refl, sym, ◌∙◌, ap, subst}
use Prim.Native.Nat.{ℕ, ◌+◌, ◌*◌, ◌-◌, ◌^◌, ◌<◌, ◌≤◌}
use native.Mathlib.Omega.{arith}
use lib.ListN.{length, replicate}
use Rattle.words.specs.Fields.{count}
use Rattle.words.specs.Rights.{root_right}
use Rattle.words.specs.Sizes.{slot_size, slot_count, memory_length, state_length, entry_size, header_size, position_size, slots_for}
use Rattle.state.specs.State.{Object, table, directory, process, endpoint, size_of, obj_at, positions_in, splice, put_place, raise}
use Rattle.state.specs.Layout.{Laid}
use Rattle.state.specs.Bytes.{le32, mark, place_bytes, position_bytes, tag_of, bytes}
use Rattle.state.specs.Read.{read}
use Rattle.state.proofs.Write.{place_room, position_room, slot_room, bytes_place, bytes_position, bytes_table, bytes_directory, bytes_count}
use Rattle.state.proofs.Run.{object_fits}
use Rattle.state.proofs.New.{Vacant, with_new, table_slots, directory_slots, bytes_new_table, bytes_new_directory, bytes_new_process, bytes_new_endpoint}
use Rattle.state.proofs.WithPlace.{bytes_create, bytes_delete}
use Rattle.rules.specs.Buffer.{sound}
use Rattle.rules.specs.Commit.{commit, create}
use Rattle.rules.proofs.Facts.{wf_laid}
use Rattle.rules.proofs.Lift.{sound_open}
use Rattle.committing.specs.Names.{None, ChangeDirectory, ChangeTable, Count, CreateDirectory, CreateEndpoint, CreateProcess, CreateTable, Delete, Directory, Empty, Endpoint, Geometry, Some, Kind, Place, Position, Process, SetCount, SetPosition, Slot, Spot, Table}
use Rattle.committing.specs.Ready.{DeletionSite, DirectorySite, Entry, Site, TableSite}

module _ (b : List ℕ) (h : sound b ≡ true) where
  pub long : length b ≡ state_length
  long = (sound_open b h).size

  laid : Laid (read b)
  laid = wf_laid (read b) (sound_open b h).formed

  pub back : bytes (read b) ≡ b
  back = (sound_open b h).bytes_of

  -- ---- one place
  pub entry_room : (p : Spot) → Entry (read b) p → slot_size * p.table.0 + entry_size * p.entry + entry_size ≤ length b
  entry_room p q = omega (arith, long, place_room (read b) laid p q)

  pub place_law : (p : Spot) (x : Place) → Entry (read b) p → splice (slot_size * p.table.0 + entry_size * p.entry) (place_bytes x) b ≡ bytes (put_place (read b) p x)
  place_law p x q = ap (splice (slot_size * p.table.0 + entry_size * p.entry) (place_bytes x)) (sym back) ∙ sym (bytes_place (read b) laid p x q)

  -- ---- a part of an object that stands
  pub position_fits : (d : Slot) (i : ℕ) → i < positions_in (read b) d → slot_size * d.0 + header_size + position_size * i + position_size ≤ length b
  position_fits d i q = omega (arith, long, position_room (read b) laid d i q)

  pub position_law : (d : Slot) (i : ℕ) (x : Position) → i < positions_in (read b) d
      → splice (slot_size * d.0 + header_size + position_size * i) (position_bytes x) b ≡ bytes (commit (read b) (SetPosition d i x))
  position_law d i x q = ap (splice (slot_size * d.0 + header_size + position_size * i) (position_bytes x)) (sym back) ∙ sym (bytes_position (read b) laid d i x q)

  pub slot_fits : (k : Slot) → 4 ≤ tag_of (obj_at (read b) k) → slot_size * k.0 + slot_size ≤ length b
  slot_fits k q = omega (arith, long, slot_room (read b) laid k q)

  pub table_law : (p t : Slot) → tag_of (obj_at (read b) p) ≡ 4 → splice (slot_size * p.0) (le32 t.0) b ≡ bytes (commit (read b) (ChangeTable p t))
  table_law p t q = ap (splice (slot_size * p.0) (le32 t.0)) (sym back) ∙ sym (bytes_table (read b) laid p t q)

  pub directory_law : (p d : Slot) → tag_of (obj_at (read b) p) ≡ 4 → splice (slot_size * p.0 + 4) (le32 d.0) b ≡ bytes (commit (read b) (ChangeDirectory p d))
  directory_law p d q = ap (splice (slot_size * p.0 + 4) (le32 d.0)) (sym back) ∙ sym (bytes_directory (read b) laid p d q)

  pub count_law : (e : Slot) (c n : Count) → tag_of (obj_at (read b) e) ≡ 5 → splice (slot_size * e.0) (le32 c.0) b ≡ bytes (commit (read b) (SetCount e c n))
  count_law e c n q = ap (splice (slot_size * e.0) (le32 c.0)) (sym back) ∙ sym (bytes_count (read b) laid e c q)

  -- ---- a new object with its root
  created : (p : Spot) (s : Slot) (o : Object) (k : Kind) (n : ℕ) (l : List ℕ) → size_of o ≡ n → 1 ≤ n → Site (read b) p s n → bytes (raise (read b) s o) ≡ l
      → splice (slot_size * p.table.0 + entry_size * p.entry) (place_bytes (Some (root_right k))) l ≡ bytes (create (read b) p s o k)
  created p s o k n l size some site new =
      ap (splice (slot_size * p.table.0 + entry_size * p.entry) (place_bytes (Some (root_right k)))) (sym new)
      ∙ sym (bytes_create (read b) laid p (Some (root_right k)) site.entry s o (rw size some) (subst (Vacant (read b) s) (sym size) (record { fits = site.fits; none = site.vacant })))

  pub table_made : (p : Spot) (s : Slot) (n : ℕ) → TableSite (read b) p s n
      → splice (slot_size * p.table.0 + entry_size * p.entry) (place_bytes (Some (root_right (Table s)))) (with_new b s (slots_for (entry_size * n)) 2 n 0 0 0) ≡ bytes (commit (read b) (CreateTable p s n))
  table_made p s n q =
      created p s (table (replicate n None)) (Table s) (slots_for (entry_size * n)) _ (table_slots n) (omega (arith, q.some)) q.site
      (bytes_new_table (read b) laid s n q.some (record { fits = q.site.fits; none = q.site.vacant })
      ∙ ap (λ (l : List ℕ). with_new l s (slots_for (entry_size * n)) 2 n 0 0 0) back)

  pub directory_made : (p : Spot) (s : Slot) (g : Geometry) → DirectorySite (read b) p s g
      → splice (slot_size * p.table.0 + entry_size * p.entry) (place_bytes (Some (root_right (Directory s 0 (2 ^ g.number - 1)))))
      (with_new b s (slots_for (header_size + position_size * 2 ^ g.number)) 3 g.number g.size (mark g.top) g.start) ≡ bytes (commit (read b) (CreateDirectory p s g))
  directory_made p s g q =
      let m : ℕ = 2 ^ g.number in
      created p s (directory g (replicate m Empty)) (Directory s 0 (m - 1)) (slots_for (header_size + position_size * m)) _ (directory_slots g m) (omega arith) q.site
      (bytes_new_directory (read b) laid s g m (record { fits = q.site.fits; none = q.site.vacant })
      ∙ ap (λ (l : List ℕ). with_new l s (slots_for (header_size + position_size * m)) 3 g.number g.size (mark g.top) g.start) back)

  pub process_made : (p : Spot) (s t d : Slot) → Site (read b) p s 1
      → splice (slot_size * p.table.0 + entry_size * p.entry) (place_bytes (Some (root_right (Process s)))) (with_new b s 1 4 0 t.0 d.0 0) ≡ bytes (commit (read b) (CreateProcess p s t d))
  process_made p s t d q =
      created p s (process t d) (Process s) 1 _ refl (omega arith) q
      (bytes_new_process (read b) laid s t d (record { fits = q.fits; none = q.vacant }) ∙ ap (λ (l : List ℕ). with_new l s 1 4 0 t.0 d.0 0) back)

  pub endpoint_made : (p : Spot) (s : Slot) → Site (read b) p s 1
      → splice (slot_size * p.table.0 + entry_size * p.entry) (place_bytes (Some (root_right (Endpoint s)))) (with_new b s 1 5 0 0 0 0) ≡ bytes (commit (read b) (CreateEndpoint p s))
  endpoint_made p s q =
      created p s (endpoint (count 0) false) (Endpoint s) 1 _ refl (omega arith) q
      (bytes_new_endpoint (read b) laid s (record { fits = q.fits; none = q.vacant }) ∙ ap (λ (l : List ℕ). with_new l s 1 5 0 0 0 0) back)

  -- the parts that a creation writes lie in the buffer
  pub new_room : (s : Slot) (n : ℕ) → s.0 + n ≤ slot_count → (memory_length + 4 * s.0 + 4 * n ≤ length b) × (slot_size * s.0 + slot_size * n ≤ length b)
  new_room s n q = (omega (arith, long), omega (arith, long))

  -- ---- a deletion
  pub old_room : (o : Slot) → 2 ≤ tag_of (obj_at (read b) o) → o.0 + size_of (obj_at (read b) o) ≤ slot_count
  old_room o q = object_fits (read b) laid o q

  pub delete_law : (p : Spot) (o : Slot) → DeletionSite (read b) p o
      → splice (slot_size * o.0) (replicate (slot_size * size_of (obj_at (read b) o)) 0)
      (splice (memory_length + 4 * o.0) (replicate (4 * size_of (obj_at (read b) o)) 0) (splice (slot_size * p.table.0 + entry_size * p.entry) (place_bytes None) b))
      ≡ bytes (commit (read b) (Delete p o))
  delete_law p o q =
      let n : ℕ = size_of (obj_at (read b) o) in
      ap (λ (l : List ℕ). splice (slot_size * o.0) (replicate (slot_size * n) 0) (splice (memory_length + 4 * o.0) (replicate (4 * n) 0) (splice (slot_size * p.table.0 + entry_size * p.entry) (place_bytes None) l))) (sym back)
      ∙ sym (bytes_delete (read b) laid p None q.entry o q.stands)
