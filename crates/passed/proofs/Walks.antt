-- The walk of the twenty calls, in the order of document 01's table: each line is an argument of the call, and what it shows.
use mathlib.Core.Bool.{Bool, false, true}
use mathlib.Core.List.{List, [], ◌∷◌}
use mathlib.Core.Logic.{inl, inr}
use mathlib.Core.Path.{refl, subst, ◌≡◌}
use Prim.Native.Nat.{◌*◌, ◌+◌, ◌-◌, ◌<◌, ◌^◌, suc, zero, ℕ}
use native.Mathlib.Omega.{arith}
use lib.Dec.{eqb}
use lib.ListN.{get_or}
use borrow.Author.Tests.{eqb-true, leb-true, ltb-true}
use Rattle.rules.specs.Calls.{as_directory_object, as_page, asked_flags, asked_kind, call_of, call_table, caller_table, change_directory, change_table, construct, create_directory, create_endpoint, create_process, create_table, delegate, delete_directory, delete_endpoint, delete_process, delete_table, destruct, freeze, function, granted, map_page, most, no_call, plan, receive, remove, remove_page, send, size_at}
use Rattle.rules.specs.Numbers.{as_endpoint, as_process, as_table}
use Rattle.rules.specs.Places.{spot}
use Rattle.state.specs.State.{Object, State, body, directory, endpoint, free, obj_at, place_number, position_at, positions_in, process, table}
use Rattle.words.proofs.Tests.{and_left, and_right, not_false}
use Rattle.words.specs.Fields.{D0, D1, call_number, slot}
use Rattle.words.specs.Refusals.{number}
use Rattle.words.specs.Rights.{inside, some_range, subset}
use Rattle.words.specs.Tests.{choose}
use Rattle.words.specs.Try.{Try, Ok}
use Rattle.passed.specs.Found.{By, Plot, spanned, stretched}
use Rattle.passed.specs.Names.{Action, Capability, Child, Empty, Endpoint, Kind, Page, PgtMap, Position, Process, Refusal, Slot, Span, Spot, Table, Thawed, Some, Words}
use Rattle.passed.specs.Passed.{Becomes, Creation, Deletion, Doomed, Mapped, Passed, PassedCall, PositionSet, Removal, a_directory, a_process, a_table, an_endpoint}
use Rattle.passed.proofs.Arguments.{Deleting, Filling, by_directory, by_endpoint, by_memory, by_process, by_table, by_top, deleting, filling, looked_up, plotted, removing, thawed}
use Rattle.passed.proofs.Given.{Given, bind, given, is_bad_state, refused, seq, test, then}
use Rattle.passed.proofs.OfKind.{ADirectory, is_directory_object, is_endpoint, is_function, is_process, is_table}

module _ (st : State) (t : Slot) where
  -- a creation's common part
  creation : (c m : _) (e : ℕ) (p : Spot) (s : Slot) (n : ℕ) → By st t (Table c) → By st t (stretched m) → Filling st t c e p → Plot st m s n → Creation st t p s n
  creation c m e p s n rc hm hp hs =
      record { into = subst (λ (q : Spot). By st t (Table q.table)) hp.is rc; fill = hp.vacant; memory = m; ground = hm; plot = hs }

  create_table_lem : (w : Words) → Given (create_table st t w) (Passed st t w)
  unfolding create_table
  create_table_lem w =
      bind (by_table st t _ _) λ c rc. bind (by_memory st t _ _) λ m hm. bind (filling st t c _) λ p hp. test _ refl λ hn. bind (plotted st t m _ _) λ s hs.
      given (record { creation = creation c m _ p s _ rc hm hp hs; some = leb-true _ _ (and_left _ _ hn); most = leb-true _ _ (and_right _ _ hn) })

  -- a deletion's common part, and what its kind shows
  deletion : (Q : Kind → Slot → Type 0) (c : Slot) (e : ℕ) (o : Slot) → By st t (Table c) → (d : Deleting st t Q c e o) → Doomed st o d.right.kind → Deletion st t (spot c e) o
  deletion Q c e o rc d x = record { from = rc; right = d.right; stands = d.stands; root = d.root; childless = d.childless; unused = d.unused; doomed = x }

  delete_table_lem : (w : Words) → Given (delete_table st t w) (Passed st t w)
  unfolding delete_table
  delete_table_lem w =
      bind (by_table st t _ _) λ c rc. bind (deleting st t as_table (λ k o. k ≡ Table o) is_table c _) λ o d. test _ refl λ h.
      given (deletion _ c _ o rc d (a_table d.kind h))

  -- what a grant asks of the right that it comes from, and what it is
  record Grown (w : Words) (c : Capability) (p : ℕ) (g : Capability) : Type 0 where
    kind : g.kind ≡ asked_kind c.kind w
    flags : g.flags ≡ asked_flags c.kind w
    fewer : subset (asked_flags c.kind w) c.flags ≡ true
    range : some_range (asked_kind c.kind w) ≡ true
    within : inside (asked_kind c.kind w) c.kind ≡ true
    frost : g.frost ≡ Thawed
    origin : g.origin ≡ Some p

  grant : (w : Words) (c : Capability) (p : ℕ) → Given (granted c p w) (Grown w c p)
  unfolding granted
  grant w c p = test _ refl λ h. test _ refl λ h₁. given (record {
    kind = refl;
    flags = refl;
    fewer = and_right _ _ h;
    range = and_left _ _ h₁;
    within = and_right _ _ h₁;
    frost = refl;
    origin = refl;
  })

  delegate_passed : (w : Words) → Given (delegate st t w) (Passed st t w)
  unfolding delegate
  delegate_passed w =
      bind (by_table st t _ _) λ d rd. bind (by_table st t _ _) λ s rs. bind (filling st t d _) λ p hp. bind (thawed st t s _) λ c hc.
      bind (grant w c (place_number (spot s (D0 w.p2)))) λ g hg. given (record {
        to = subst (λ (q : Spot). By st t (Table q.table)) hp.is rd;
        fill = hp.vacant;
        source = spot s (D0 w.p2);
        from = rs;
        right = c;
        stands = hc;
        kind = hg.kind;
        flags = hg.flags;
        fewer = hg.fewer;
        range = hg.range;
        within = hg.within;
        frost = hg.frost;
        origin = hg.origin;
      })

  freeze_passed : (w : Words) → Given (freeze st t w) (Passed st t w)
  unfolding freeze
  freeze_passed w = bind (by_table st t _ _) λ c rc. seq (thawed st t c _) λ r h. given (record { in_table = rc; right = r; stands = h })

  remove_passed : (w : Words) → Given (remove st t w) (Passed st t w)
  unfolding remove
  remove_passed w = bind (by_table st t _ _) λ c rc. bind (removing st t c _) λ p h. given (subst (Removal st t) h.is (record {
    in_table = rc;
    right = h.right;
    stands = h.stands;
    child = h.child;
    childless = h.childless;
  }))

  create_directory_lem : (w : Words) → Given (create_directory st t w) (Passed st t w)
  unfolding create_directory
  create_directory_lem w =
      bind (by_table st t _ _) λ c rc. bind (by_memory st t _ _) λ m hm. bind (filling st t c _) λ p hp. test _ refl λ hg. bind (plotted st t m _ _) λ s hs.
      given (record { creation = creation c m _ p s _ rc hm hp hs; shape = hg; start = omega arith })

  delete_directory_lem : (w : Words) → Given (delete_directory st t w) (Passed st t w)
  unfolding delete_directory
  delete_directory_lem w =
      bind (by_table st t _ _) λ c rc. bind (deleting st t as_directory_object ADirectory is_directory_object c _) λ o d. test _ refl λ h. test _ refl λ h₁.
      given (deletion _ c _ o rc d (a_directory d.kind.low d.kind.high d.kind.is (not_false _ h) (not_false _ h₁)))

  -- a page, and that it is one
  a_page : (r : Refusal) → is_bad_state (number r) ≡ false → (x : Position) → Given (as_page r x) (λ f. x ≡ Page f.frame f.flags)
  a_page r s Empty = refused s
  a_page r s (Page f x) = given refl
  a_page r s (Child o x) = refused s

  position_set : (d : Span) (i : ℕ) (x : Position) → By st t (spanned d) → i < positions_in st d.object → Becomes st t d.object x → PositionSet st t d.object i x
  position_set d i x hd l b = record { span = d; by = hd; is = refl; below = l; becomes = b }

  map_page_lem : (w : Words) → Given (map_page st t w) (Passed st t w)
  unfolding map_page
  map_page_lem w =
      bind (by_directory st t _ _) λ d hd. bind (by_directory st t _ _) λ s hs. test _ refl λ h. test _ refl λ h₁. test _ refl λ h₂. test _ refl λ h₃. test _ refl λ h₄.
      bind (a_page _ refl _) λ f hf. test _ refl λ h₅. test _ refl λ h₆. let
      source : Mapped st t d.object (f.frame + D0 w.p3 * 2 ^ size_at st d) (D1 w.p3) = record {
        span = s;
        by = hs;
        position = D0 w.p2;
        below = ltb-true _ _ (and_right _ _ h₁);
        page = f;
        holds = hf;
        finer = leb-true _ _ h;
        index = D0 w.p3;
        indexed = ltb-true _ _ h₂;
        is = refl;
        fewer = h₆;
      } in
      given (position_set d (D0 w.p1) (Page (f.frame + D0 w.p3 * 2 ^ size_at st d) (D1 w.p3)) hd (ltb-true _ _ (and_left _ _ h₁)) source)

  remove_page_lem : (w : Words) → Given (remove_page st t w) (Passed st t w)
  unfolding remove_page
  remove_page_lem w =
      bind (by_directory st t _ _) λ d hd. test _ refl λ h. test _ refl λ h₁. seq (a_page PgtMap refl (position_at st d.object w.p2)) λ f z.
      given (position_set d _ Empty hd (ltb-true _ _ h) tt)

  construct_passed : (w : Words) → Given (construct st t w) (Passed st t w)
  unfolding construct
  construct_passed w =
      bind (by_directory st t _ _) λ p hp. bind (by_directory st t _ _) λ c hc. test _ refl λ h. test _ refl λ h₁. test _ refl λ h₂. test _ refl λ h₃. test _ refl λ h₄. given (record {
        span = p;
        by = hp;
        is = refl;
        below = ltb-true _ _ h;
        becomes = record { span = c; by = hc; is = refl; orders = eqb-true _ _ h₁; below_top = not_false _ h₄; few = omega arith };
      })

  destruct_passed : (w : Words) → Given (destruct st t w) (Passed st t w)
  unfolding destruct
  destruct_passed w = bind (by_directory st t _ _) λ d hd. test _ refl λ h. test _ refl λ h₁. test _ refl λ h₂. given (position_set d _ Empty hd (ltb-true _ _ h) tt)

  create_process_lem : (w : Words) → Given (create_process st t w) (Passed st t w)
  unfolding create_process
  create_process_lem w =
      bind (by_table st t _ _) λ c rc. bind (by_memory st t _ _) λ m hm. bind (by_table st t _ _) λ o ho. bind (by_top st t _ _) λ d hd.
      bind (filling st t c _) λ p hp. bind (plotted st t m _ _) λ s hs.
      given (record { creation = creation c m _ p s _ rc hm hp hs; table = ho; directory = hd })

  delete_process_lem : (w : Words) → Given (delete_process st t w) (Passed st t w)
  unfolding delete_process
  delete_process_lem w =
      bind (by_table st t _ _) λ c rc. bind (deleting st t as_process (λ k o. k ≡ Process o) is_process c _) λ o d. given (deletion _ c _ o rc d (a_process d.kind))

  change_table_lem : (w : Words) → Given (change_table st t w) (Passed st t w)
  unfolding change_table
  change_table_lem w = bind (by_process st t _ _) λ p hp. bind (by_table st t _ _) λ o ho. given (record { process = hp; table = ho })

  change_directory_lem : (w : Words) → Given (change_directory st t w) (Passed st t w)
  unfolding change_directory
  change_directory_lem w = bind (by_process st t _ _) λ p hp. bind (by_top st t _ _) λ d hd. given (record { process = hp; directory = hd })

  create_endpoint_lem : (w : Words) → Given (create_endpoint st t w) (Passed st t w)
  unfolding create_endpoint
  create_endpoint_lem w =
      bind (by_table st t _ _) λ c rc. bind (by_memory st t _ _) λ m hm. bind (filling st t c _) λ p hp. bind (plotted st t m _ _) λ s hs.
      given (creation c m _ p s _ rc hm hp hs)

  delete_endpoint_lem : (w : Words) → Given (delete_endpoint st t w) (Passed st t w)
  unfolding delete_endpoint
  delete_endpoint_lem w =
      bind (by_table st t _ _) λ c rc. bind (deleting st t as_endpoint (λ k o. k ≡ Endpoint o) is_endpoint c _) λ o d. test _ refl λ h.
      given (deletion _ c _ o rc d (an_endpoint d.kind (not_false _ h)))

  send_passed : (w : Words) → Given (send st t w) (Passed st t w)
  unfolding send
  send_passed w = bind (by_endpoint st t _ _) λ e he. test _ refl λ h. given (record { by = he; counts = inl (refl, ltb-true _ _ h); few = omega arith })

  -- what a receipt takes is below 2^31
  most_few : (n : ℕ) → most n < 2 ^ 31
  most_few n = go (eqb n 2)
    where
      go : (b : Bool) → choose b 1 (2 ^ 31 - 1) < 2 ^ 31
      go true = omega arith
      go false = omega arith

  receive_passed : (w : Words) → Given (receive st t w) (Passed st t w)
  unfolding receive
  receive_passed w =
      bind (looked_up st t _) λ c hc. bind (is_endpoint c.kind) λ e he. test _ refl λ h. test _ refl λ h₁.
      given (record { by = record { right = c; found = hc; kind = he }; counts = inr (omega arith); few = omega (arith, most_few w.p2) })

  function_passed : (w : Words) → Given (function st t w) (Passed st t w)
  unfolding function
  function_passed w = bind (looked_up st t _) λ c hc. bind (is_function c.kind) λ f hf. test _ refl λ h. test _ refl λ h₁. given (omega arith)

  -- ---- by the call's number
  abbrev Call : Type 0
  Call = State → Slot → Words → Try Action

  abbrev Shows : Words → Call → Type 0
  Shows w c = Given (c st t w) (Passed st t w)

  abbrev Each : (Call → Type 0) → List Call → Type 0
  Each P [] = Unit {0}
  Each P (c ∷ cs) = P c × Each P cs

  each_at : (P : Call → Type 0) (cs : List Call) (n : ℕ) (d : Call) → P d → Each P cs → P (get_or cs n d)
  each_at P [] n d h e = h
  each_at P (c ∷ cs) zero d h e = e.0
  each_at P (c ∷ cs) (suc n) d h e = each_at P cs n d h e.1

  pub call_passed : (n : ℕ) (w : Words) → Given (call_of n st t w) (Passed st t w)
  call_passed n w = each_at (Shows w) call_table n no_call (refused refl) (
    refused refl,
    (
      create_table_lem w,
      (
        delete_table_lem w,
        (
          delegate_passed w,
          (
            freeze_passed w,
            (
              remove_passed w,
              (
                create_directory_lem w,
                (
                  delete_directory_lem w,
                  (
                    map_page_lem w,
                    (
                      remove_page_lem w,
                      (
                        construct_passed w,
                        (
                          destruct_passed w,
                          (
                            create_process_lem w,
                            (
                              delete_process_lem w,
                              (
                                change_table_lem w,
                                (
                                  change_directory_lem w,
                                  (create_endpoint_lem w, (delete_endpoint_lem w, (send_passed w, (receive_passed w, (function_passed w, tt))))),
                                ),
                              ),
                            ),
                          ),
                        ),
                      ),
                    ),
                  ),
                ),
              ),
            ),
          ),
        ),
      ),
    ),
  )

caller_is : (o : Object) → Given (caller_table o) (λ t. (d : Slot) × (o ≡ process t d))
unfolding caller_table
caller_is free = refused refl
caller_is (body h) = refused refl
caller_is (table ps) = refused refl
caller_is (directory g es) = refused refl
caller_is (process t d) = given (d, refl)
caller_is (endpoint c b) = refused refl

-- what a plan tells: of its action where it passes, and never −19
pub plan_given : (st : State) (caller : ℕ) (w : Words) → Given (plan st caller w) (PassedCall st caller w)
unfolding plan
plan_given st caller w =
    bind (caller_is (obj_at st (slot caller))) λ t c. then (call_passed st t (call_number w) w) λ a h.
    record { table = t; directory = c.0; named = c.1; shown = h }

pub passed : (st : State) (caller : ℕ) (w : Words) (a : Action) → plan st caller w ≡ Ok a → PassedCall st caller w a
passed st caller w = (plan_given st caller w).of
