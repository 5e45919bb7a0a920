-- What the writers ask of the objects that a passed plan found, in a well-formed state: their tags, the room of a new one, the flags of a page.
use mathlib.Core.Bool.{true}
use mathlib.Core.Path.{◌≡◌, sym, ◌∙◌, ap, subst}
use Prim.Native.Nat.{ℕ, ◌<◌, ◌≤◌}
use native.Mathlib.Omega.{arith}
use borrow.Author.Tests.{leb-true}
use Rattle.words.specs.Sizes.{slot_count}
use Rattle.words.proofs.Tests.{and_right, all_at}
use Rattle.state.specs.State.{directory, State, obj_at, positions_in, position_at, positions_of, shape_of}
use Rattle.state.specs.Bytes.{tag_of}
use Rattle.state.proofs.Write.{is_directory}
use Rattle.rules.specs.Formed.{Formed}
use Rattle.rules.specs.WellFormed.{object_no, object_ok, position_ok, still}
use Rattle.rules.proofs.Inside.{laid_out, stands_inside}
use Rattle.rules.proofs.Named.{number_tag, some_tag}
use Rattle.passed.specs.Found.{By, Stands}
use Rattle.passed.specs.Passed.{Creation, Doomed, a_table, a_directory, a_process, an_endpoint}
use Rattle.passed.proofs.Stand.{Standing, stands_held, stands_found, plot_fits}
use Rattle.committing.specs.Names.{Capability, Endpoint, Kind, Page, Process, Slot, Spot}
use Rattle.committing.specs.Ready.{Site}

module _ (st : State) (w : Formed (still st)) where
  pub process_stands : (t p : Slot) → By st t (Process p) → tag_of (obj_at st p) ≡ 4
  process_stands t p b = let n = stands_found st w b in number_tag (obj_at st p) (omega arith) ∙ n

  pub endpoint_stands : (t e : Slot) → By st t (Endpoint e) → tag_of (obj_at st e) ≡ 5
  endpoint_stands t e b = let n = stands_found st w b in number_tag (obj_at st e) (omega arith) ∙ n

  -- the object of a root to delete
  doomed_some : (o : Slot) (k : Kind) → Doomed st o k → Standing st k → 1 ≤ object_no (obj_at st o)
  doomed_some o k (a_table e z) h = let n : object_no (obj_at st o) ≡ 1 = subst (Standing st) e h in omega arith
  doomed_some o k (a_directory l u e z y) h = let n : object_no (obj_at st o) ≡ 2 = subst (Standing st) e h in omega arith
  doomed_some o k (a_process e) h = let n : object_no (obj_at st o) ≡ 4 = subst (Standing st) e h in omega arith
  doomed_some o k (an_endpoint e z) h = let n : object_no (obj_at st o) ≡ 5 = subst (Standing st) e h in omega arith

  pub doomed_stands : (p : Spot) (o : Slot) (c : Capability) → Stands st p c → Doomed st o c.kind → 2 ≤ tag_of (obj_at st o)
  doomed_stands p o c h d = some_tag (obj_at st o) (doomed_some o c.kind d (stands_held st w h))

  pub site_of : (t : Slot) (p : Spot) (s : Slot) (n : ℕ) → Creation st t p s n → Site st p s n
  site_of t p s n c = record { entry = c.fill.below; fits = plot_fits st w c.ground c.plot; vacant = c.plot.vacant }

  -- a page has page flags
  pub page_flags_lem : (d : Slot) (i f x : ℕ) → i < positions_in st d → position_at st d i ≡ Page f x → x ≤ 63
  unfolding object_ok position_ok
  page_flags_lem d i f x h e =
      let is = is_directory (obj_at st d) i h in
      let inside : d.0 < slot_count = stands_inside (still st) (laid_out w) d 1 (ap object_no is) in
      let ok : object_ok (still st) d (directory (shape_of (obj_at st d)) (positions_of (obj_at st d))) ≡ true = sym (ap (object_ok (still st) d) is) ∙ w.objects d.0 inside in
      let at : position_ok (still st) (shape_of (obj_at st d)) (position_at st d i) ≡ true = all_at _ _ (and_right _ _ (and_right _ _ (and_right _ _ ok))) i h in
      let page : position_ok (still st) (shape_of (obj_at st d)) (Page f x) ≡ true = sym (ap (position_ok (still st) (shape_of (obj_at st d))) e) ∙ at in
      leb-true _ _ (and_right _ _ (and_right _ _ page))
