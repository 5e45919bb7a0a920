-- What is written into one object: the table and the directory that a process names, an endpoint's count.
use mathlib.Core.Bool.{true}
use mathlib.Core.Logic.{inl, inr, ◌⊎◌}
use mathlib.Core.Path.{ap, refl, sym, ◌∙◌, ◌≡◌}
use Prim.Native.Nat.{◌+◌, ◌-◌, ◌<◌, ◌^◌, suc, ℕ, ◌≤◌}
use native.Mathlib.Omega.{arith}
use borrow.Author.Tests.{eq-eqb, lt-ltb, ltb-true}
use Rattle.passed.proofs.Stand.{stands_found}
use Rattle.passed.specs.Passed.{Counted, DirectoryChanged, TableChanged}
use Rattle.rules.proofs.Inside.{laid_out, stands_inside}
use Rattle.rules.proofs.Named.{number_tag}
use Rattle.rules.specs.Commit.{commit}
use Rattle.rules.specs.Formed.{Formed}
use Rattle.rules.specs.WellFormed.{object_no, object_ok, runs, still}
use Rattle.state.proofs.Write.{is_endpoint, is_process}
use Rattle.state.specs.State.{State, boot_mark, count_of, directory_named, endpoint, obj_at, process, put, table_named}
use Rattle.words.proofs.Tests.{and_both, and_left, and_right}
use Rattle.words.specs.Fields.{count}
use Rattle.kept.specs.Names.{ChangeDirectory, ChangeTable, Count, SetCount, Slot}
use Rattle.kept.proofs.Put.{put_formed}

module _ (st : State) (w : Formed (still st)) where
  object_ok_lem : (o : Slot) (i : ℕ) → object_no (obj_at st o) ≡ suc i → object_ok (still st) o (obj_at st o) ≡ true
  object_ok_lem o i h = w.objects o.0 (stands_inside (still st) (laid_out w) o i h)

  -- ---- what a process names
  process_is : (p : Slot) → object_no (obj_at st p) ≡ 4 → obj_at st p ≡ process (table_named (obj_at st p)) (directory_named (obj_at st p))
  process_is p h = is_process (obj_at st p) (number_tag (obj_at st p) (omega arith) ∙ h)

  process_put : (p t d : Slot) → object_no (obj_at st p) ≡ 4 → runs (still st) t d ≡ true → Formed (still (put st p (process t d)))
  unfolding object_ok
  process_put p t d h r =
      put_formed (still st) w p _ (process_is p h) 3 refl (process t d) (record { number = refl; entries = refl; positions = refl; shape = refl; first = λ k. refl; size = refl }) refl r

  ran : (p : Slot) → object_no (obj_at st p) ≡ 4 → runs (still st) (table_named (obj_at st p)) (directory_named (obj_at st p)) ≡ true
  unfolding object_ok
  ran p h = sym (ap (object_ok (still st) p) (process_is p h)) ∙ object_ok_lem p 3 h

  pub table_changed : {t p o : Slot} → TableChanged st t p o → Formed (still (commit st (ChangeTable p o)))
  unfolding runs
  table_changed {p = p} {o = o} h =
      let k = stands_found st w h.process in
      process_put p o (directory_named (obj_at st p)) k (and_both _ _ (eq-eqb _ _ (stands_found st w h.table)) (and_right _ _ (ran p k)))

  pub directory_changed : {t p d : Slot} → DirectoryChanged st t p d → Formed (still (commit st (ChangeDirectory p d)))
  unfolding runs
  directory_changed {p = p} {d = d} h =
      let k = stands_found st w h.process in
      process_put p (table_named (obj_at st p)) d k (and_both _ _ (and_left _ _ (ran p k)) h.directory.top)

  -- ---- an endpoint's count
  endpoint_is : (e : Slot) → object_no (obj_at st e) ≡ 5 → obj_at st e ≡ endpoint (count (count_of (obj_at st e))) (boot_mark (obj_at st e))
  endpoint_is e h = is_endpoint (obj_at st e) (number_tag (obj_at st e) (omega arith) ∙ h)

  counted : (e : Slot) → object_no (obj_at st e) ≡ 5 → count_of (obj_at st e) < 2 ^ 32
  unfolding object_ok
  counted e h = ltb-true _ _ (sym (ap (object_ok (still st) e) (endpoint_is e h)) ∙ object_ok_lem e 4 h)

  pub count_set : {t e : Slot} {c n : Count} → Counted st t e c n → Formed (still (commit st (SetCount e c n)))
  unfolding object_ok
  count_set {e = e} {c = c} h =
      put_formed (still st) w e _ (endpoint_is e (stands_found st w h.by)) 4 refl (endpoint c (boot_mark (obj_at st e)))
      (record { number = refl; entries = refl; positions = refl; shape = refl; first = λ k. refl; size = refl }) refl (lt-ltb _ _ (word h.counts))
    where
      word : ((c.0 ≡ count_of (obj_at st e) + 1) × (count_of (obj_at st e) < 2 ^ 32 - 1)) ⊎ (c.0 ≤ count_of (obj_at st e)) → c.0 < 2 ^ 32
      word (inl m) = omega (arith, m.0, m.1)
      word (inr l) = omega (arith, counted e (stands_found st w h.by))
