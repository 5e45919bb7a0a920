-- The four deletions: what goes holds no right, has no user and hangs nowhere.
use mathlib.Core.Bool.{true}
use mathlib.Core.Logic.{◌≢◌}
use mathlib.Core.Path.{ap, subst, sym, ◌∙◌, ◌≡◌}
use Prim.Native.Nat.{suc, ℕ}
use native.Mathlib.Decide.{dec_lt}
use native.Mathlib.Omega.{arith}
use borrow.Author.Tests.{eqb-true}
use Rattle.passed.proofs.Arguments.{is_blank_lem}
use Rattle.passed.proofs.Stand.{Standing, stands_held}
use Rattle.passed.specs.Passed.{Deletion, Doomed, a_directory, a_process, a_table, an_endpoint}
use Rattle.rules.proofs.Pages.{shaped}
use Rattle.rules.specs.Calls.{is_empty_table}
use Rattle.rules.specs.Commit.{commit}
use Rattle.rules.specs.Formed.{Formed}
use Rattle.rules.specs.Places.{has_children, has_users}
use Rattle.rules.specs.WellFormed.{hangs, object_no, position_ok, still}
use Rattle.state.proofs.Look.{place_past}
use Rattle.state.specs.State.{State, entries_in, obj_at, place_at, shape_at}
use Rattle.words.proofs.Tests.{all_at, and_left}
use Rattle.words.specs.Fields.{slot}
use Rattle.kept.specs.Names.{None, Child, Delete, Directory, Endpoint, Kind, Process, Slot, Spot, Table}
use Rattle.kept.proofs.Deleted.{Unhung, deleted, unhung}
use Rattle.kept.proofs.Objects.{no_place}
use Rattle.kept.proofs.Roots.{Of, of_directory, of_endpoint, of_process, of_table}

module _ (st : State) (w : Formed (still st)) where
  abbrev ss : State
  ss = still st

  -- a position holds only directories
  unhung_other : (o : Slot) (n : ℕ) → object_no (obj_at st o) ≡ n → n ≢ 2 → Unhung ss o
  unfolding position_ok hangs
  unhung_other o n number two k j d f hk hj q e =
      let g = shaped st w (slot k) j hj in
      let p : position_ok ss (shape_at st (slot k)) (Child d f) ≡ true = sym (ap (position_ok ss (shape_at st (slot k))) q) ∙ g.each j hj in
      let z : object_no (obj_at st d) ≡ 2 = eqb-true _ _ (and_left _ _ (and_left _ _ p)) in
      two (sym number ∙ subst (λ (x : ℕ). object_no (obj_at st (slot x)) ≡ 2) e z)

  empty_table : (o : Slot) → is_empty_table st o ≡ true → (a : ℕ) → place_at st o a ≡ None
  unfolding is_empty_table
  empty_table o h a = elim (dec_lt a (entries_in st o)) [ yes l ↦ is_blank_lem _ (all_at _ _ h a l) | no n ↦ place_past st o a (omega arith) ]

  -- ---- by the kind of what goes
  module _ {t : Slot} {p : Spot} {o : Slot} (h : Deletion st t p o) where
    -- the object of the root stands
    stood : (k : Kind) → h.right.kind ≡ k → Standing st k
    stood k q = subst (Standing st) q (stands_held st w h.stands)

    gone : (i : ℕ) → Of h.right.kind o i → object_no (obj_at st o) ≡ suc i → ((a : ℕ) → place_at st o a ≡ None) → Unhung ss o → Formed (still (commit st (Delete p o)))
    unfolding has_children has_users
    gone i of number blank hung =
        deleted ss w p h.right o i (record { below = h.stands.below; holds = h.stands.holds }) number h.root h.childless h.unused of blank hung

    -- neither a table nor a directory
    gone_plain : (i : ℕ) → Of h.right.kind o i → object_no (obj_at st o) ≡ suc i → suc i ≢ 1 → suc i ≢ 2 → Formed (still (commit st (Delete p o)))
    gone_plain i of number one two = gone i of number (no_place (obj_at st o) (λ z. one (sym number ∙ z))) (unhung_other o (suc i) number two)

    go : Doomed st o h.right.kind → Formed (still (commit st (Delete p o)))
    go (a_table q empty) = let n = stood (Table o) q in gone 0 (rw q (of_table o)) n (empty_table o empty) (unhung_other o 1 n (λ z. omega arith))
    go (a_directory l u q children nowhere) =
        let n = stood (Directory o l u) q in
        gone 1 (rw q (of_directory o l u)) n (no_place (obj_at st o) (λ z. omega arith)) (unhung st o nowhere)
    go (a_process q) = gone_plain 3 (rw q (of_process o)) (stood (Process o) q) (λ z. omega arith) (λ z. omega arith)
    go (an_endpoint q boot) = gone_plain 4 (rw q (of_endpoint o)) (stood (Endpoint o) q) (λ z. omega arith) (λ z. omega arith)

    pub object_deleted : Formed (still (commit st (Delete p o)))
    object_deleted = go h.doomed
