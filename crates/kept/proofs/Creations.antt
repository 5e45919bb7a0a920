-- The four creations: a table, a directory, a process, an endpoint, each with its root in the place to fill.
use mathlib.Core.Bool.{false, true}
use mathlib.Core.List.{List}
use mathlib.Core.Path.{ap, refl, subst, sym, ◌∙◌, ◌≡◌}
use Prim.Native.Nat.{◌-◌, ◌<◌, ◌^◌, suc, ℕ}
use native.Mathlib.Nat.{le_refl}
use native.Mathlib.Omega.{arith}
use lib.Dec.{leb}
use lib.ListN.{length, length-replicate, replicate}
use lib.Pow.{pow_pos}
use borrow.Author.Tests.{eq-eqb, le-leb, lt-ltb}
use Rattle.passed.proofs.Stand.{plot_fits, stands_found}
use Rattle.passed.specs.Passed.{Creation, DirectoryMade, ProcessMade, TableMade}
use Rattle.rules.proofs.Facts.{right_close}
use Rattle.rules.specs.Commit.{commit}
use Rattle.rules.specs.Formed.{Formed}
use Rattle.rules.specs.WellFormed.{descends, ends_ok, names, object_no, object_ok, position_ok, right_ok, runs, still, whole}
use Rattle.state.proofs.Zeros.{copies}
use Rattle.state.proofs.New.{Vacant, directory_slots, table_slots}
use Rattle.state.specs.State.{Object, State, directory, endpoint, obj_at, positions_in, positions_of, process, put_place, raise, size_of, table}
use Rattle.words.proofs.Tests.{all_of, and_both}
use Rattle.words.specs.Fields.{count}
use Rattle.words.specs.Rights.{all_flags, root_right}
use Rattle.words.specs.Tests.{◌&◌}
use Rattle.kept.specs.Names.{None, CreateDirectory, CreateEndpoint, CreateProcess, CreateTable, Directory, Empty, Endpoint, Geometry, Some, Kind, Position, Process, Slot, Spot, Table, Words}
use Rattle.kept.proofs.Base.{base}
use Rattle.kept.proofs.Created.{created}
use Rattle.kept.proofs.Raise.{raise_runs, raised}
use Rattle.kept.proofs.Roots.{Of, of_directory, of_endpoint, of_process, of_table}
use Rattle.kept.proofs.Stand.{Bare}

-- a root with every flag and its whole range
root_ok : (st : State) (k : Kind) → names st k ≡ true → ends_ok st k ≡ true → whole st k ≡ true → right_ok st (root_right k) ≡ true
unfolding descends
root_ok st k n e h = right_close st (root_right k) (record { stands = n; ends = e; flags = le_refl (all_flags k); stamp = refl; descent = and_both _ _ (eq-eqb (all_flags k) (all_flags k) refl) h })

module _ (st : State) (w : Formed (still st)) where
  abbrev ss : State
  ss = still st

  module _ {t : Slot} {p : Spot} {s : Slot} {m : ℕ} (c : Creation st t p s m) where
    -- the slots are free and lie in kernel memory
    vacant : Vacant ss s m
    vacant = record { fits = plot_fits st w c.ground c.plot; none = c.plot.vacant }

    -- the new object with its root; what stands at s is the new object
    made : (o : Object) (i : ℕ) (n : Bare o i) → size_of o ≡ m → (k : Kind) → Of k s i → (Vacant ss s (size_of o) → object_ok (raise ss s o) s o ≡ true)
        → (obj_at (raise ss s o) s ≡ o → right_ok (raise ss s o) (root_right k) ≡ true) → Formed (put_place (raise ss s o) p (Some (root_right k)))
    made o i n size k of good fine =
        let r : Vacant ss s (size_of o) = subst (Vacant ss s) (sym size) vacant in
        created ss w s o i n r p c.fill.below c.fill.blank k of (good r) (fine (raised ss (base w) s o i n r).here)

  pub table_made : {t : Slot} {p : Spot} {s : Slot} {n : ℕ} → TableMade st t p s n → Formed (still (commit st (CreateTable p s n)))
  unfolding object_ok names ends_ok whole
  table_made {s = s} {n = n} h =
      let long : length (replicate n None) ≡ n = length-replicate n None in
      made h.creation (table (replicate n None)) 0 (record { number = refl; some = omega (arith, table_slots n, h.some); blank = λ i. copies n i None }) (table_slots n) (Table s) (of_table s)
      (λ _. subst (λ (i : ℕ). (leb 1 i & leb i 64) ≡ true) (sym long) (and_both _ _ (le-leb _ _ h.some) (le-leb _ _ h.most)))
      (λ at. root_ok _ (Table s) (eq-eqb _ _ (ap object_no at)) refl refl)

  pub directory_made : {t : Slot} {v : Words} {p : Spot} {s : Slot} {g : Geometry} → v.p3 < 2 ^ 32 → DirectoryMade st t v p s g → Formed (still (commit st (CreateDirectory p s g)))
  unfolding object_ok position_ok names ends_ok whole
  directory_made {s = s} {g = g} word h =
      let m : ℕ = 2 ^ g.number in
      let es : List Position = replicate m Empty in
      let o : Object = directory g es in
      let long : length es ≡ m = length-replicate m Empty in
      let some : 0 < m = pow_pos g.number in
      let small : g.start < 2 ^ 32 = omega (arith, h.start) in
      made h.creation o 1 (record { number = refl; some = omega (arith, directory_slots g m); blank = λ i. refl }) (directory_slots g m) (Directory s 0 (m - 1)) (of_directory s 0 (m - 1))
      (λ _. and_both _ _ h.shape (and_both _ _ (lt-ltb _ _ small) (and_both _ _ (eq-eqb _ _ long) (all_of _ _ (λ i l. ap (position_ok (raise ss s o) g) (copies m i Empty))))))
      (λ at.
      let many : positions_in (raise ss s o) s ≡ m = ap (λ (x : Object). length (positions_of x)) at ∙ long in
      let low : 0 < positions_in (raise ss s o) s = omega arith in
      let high : m - 1 < positions_in (raise ss s o) s = omega arith in
      let all : suc (m - 1) ≡ positions_in (raise ss s o) s = omega arith in
      root_ok _ (Directory s 0 (m - 1)) (eq-eqb _ _ (ap object_no at)) (and_both _ _ (lt-ltb _ _ low) (lt-ltb _ _ high)) (and_both _ _ refl (eq-eqb _ _ all)))

  pub process_made : {t : Slot} {p : Spot} {s o d : Slot} → ProcessMade st t p s o d → Formed (still (commit st (CreateProcess p s o d)))
  unfolding object_ok names ends_ok whole runs
  process_made {s = s} {o = o} {d = d} h =
      let n : Bare (process o d) 3 = record { number = refl; some = omega arith; blank = λ i. refl } in
      made h.creation (process o d) 3 n refl (Process s) (of_process s)
      (λ r. raise_runs ss (base w) s (process o d) 3 n r o d (and_both _ _ (eq-eqb _ _ (stands_found st w h.table)) h.directory.top))
      (λ at. root_ok _ (Process s) (eq-eqb _ _ (ap object_no at)) refl refl)

  pub endpoint_made : {t : Slot} {p : Spot} {s : Slot} → Creation st t p s 1 → Formed (still (commit st (CreateEndpoint p s)))
  unfolding object_ok names ends_ok whole
  endpoint_made {s = s} h =
      made h (endpoint (count 0) false) 4 (record { number = refl; some = omega arith; blank = λ i. refl }) refl (Endpoint s) (of_endpoint s) (λ _. refl)
      (λ at. root_ok _ (Endpoint s) (eq-eqb _ _ (ap object_no at)) refl refl)
