-- A position of a directory, written: empty, the page that a part of another page is, or a child directory.
use mathlib.Core.Bool.{not, true}
use mathlib.Core.List.{List}
use mathlib.Core.Path.{ap, refl, subst, sym, ◌∙◌, ◌≡◌}
use Prim.Native.Nat.{◌%◌, ◌*◌, ◌+◌, ◌-◌, ◌<◌, ◌^◌, ℕ, ◌≤◌}
use native.Mathlib.Decide.{ℕ_discrete}
use native.Mathlib.Nat.{le_trans}
use native.Mathlib.Omega.{arith}
use lib.ListN.{get_or, length, length-set, set}
use lib.Seq.{get_or-set_other, get_or-set_same}
use borrow.Author.Tests.{eq-eqb, eqb-true, le-leb, leb-true, lt-ltb, ltb-true}
use Rattle.passed.proofs.Stand.{stands_found}
use Rattle.passed.specs.Passed.{Becomes, PositionSet}
use Rattle.rules.proofs.Pages.{frame_multiple, frame_small, shaped}
use Rattle.rules.specs.Commit.{commit}
use Rattle.rules.specs.Formed.{Formed}
use Rattle.rules.specs.WellFormed.{framed, geometric, hangs, object_no, object_ok, position_ok, still}
use Rattle.state.proofs.Write.{is_directory}
use Rattle.state.specs.State.{State, directory, obj_at, position_at, positions_in, positions_of, shape_at}
use Rattle.words.proofs.Flags.{subset_le}
use Rattle.words.proofs.Tests.{all_of, and_both, and_left, and_right}
use Rattle.words.specs.Sizes.{slots_for}
use Rattle.kept.specs.Names.{Child, Empty, Page, Position, SetPosition, Slot}
use Rattle.kept.proofs.Put.{put_formed}

module _ (st : State) (w : Formed (still st)) where
  set_position : (d : Slot) (i : ℕ) (x : Position) → i < positions_in st d → position_ok (still st) (shape_at st d) x ≡ true → Formed (still (commit st (SetPosition d i x)))
  unfolding object_ok
  set_position d i x hi ok =
      let o = shaped st w d i hi in
      let es = positions_of (obj_at st d) in
      put_formed (still st) w d _ (is_directory (obj_at st d) i hi) 1 refl (directory (shape_at st d) (set es i x))
      (record { number = refl; entries = refl; positions = length-set es i x; shape = refl; first = λ k. refl; size = ap (λ (n : ℕ). slots_for (32 + 8 * n)) (length-set es i x) }) refl
      (and_both _ _ o.geometry (and_both _ _ o.start (and_both _ _ (eq-eqb _ _ (length-set es i x ∙ o.count))
      (all_of _ _ (λ k hk. each es k (subst (λ (n : ℕ). k < n) (length-set es i x) hk) o.each (ℕ_discrete k i))))))
    where
      each : (es : List Position) (k : ℕ) → k < length es → ((n : ℕ) → n < length es → position_ok (still st) (shape_at st d) (get_or es n Empty) ≡ true) → Dec (k ≡ i)
          → position_ok (still st) (shape_at st d) (get_or (set es i x) k Empty) ≡ true
      each es k hk f (yes e) = ap (λ (n : ℕ). position_ok (still st) (shape_at st d) (get_or (set es i x) n Empty)) e ∙ ap (position_ok (still st) (shape_at st d)) (get_or-set_same es i x Empty (rw e at hk)) ∙ ok
      each es k hk f (no n) = ap (position_ok (still st) (shape_at st d)) (get_or-set_other es i k x Empty n) ∙ f k hk

  -- ---- what a position becomes
  -- the page that it is a part of
  record Whole (s : Slot) (f x : ℕ) : Type 0 where
    multiple : f % 2 ^ (shape_at st s).size ≡ 0
    word : f < 2 ^ 32
    small : (shape_at st s).size ≤ 31
    few : x ≤ 63

  whole_page : (s : Slot) (k f x : ℕ) → k < positions_in st s → position_at st s k ≡ Page f x → Whole s f x
  unfolding position_ok framed geometric
  whole_page s k f x hk q =
      let sh = shaped st w s k hk in
      let g : position_ok (still st) (shape_at st s) (Page f x) ≡ true = sym (ap (position_ok (still st) (shape_at st s)) q) ∙ sh.each k hk in
      record {
        multiple = eqb-true _ _ (and_left _ _ g);
        word = ltb-true _ _ (and_left _ _ (and_right _ _ g));
        small = leb-true _ _ (and_left _ _ (and_right _ _ sh.geometry));
        few = leb-true _ _ (and_right _ _ (and_right _ _ g));
      }

  becomes_ok : (t d : Slot) (x : Position) → Becomes st t d x → position_ok (still st) (shape_at st d) x ≡ true
  unfolding position_ok framed hangs
  becomes_ok t d Empty h = refl
  becomes_ok t d (Page f x) h =
      let m : ℕ = (shape_at st d).size in
      let j : ℕ = (shape_at st h.span.object).size - m in
      let e : j + m ≡ (shape_at st h.span.object).size = omega (arith, h.finer) in
      let g = whole_page h.span.object h.position h.page.frame h.page.flags h.below h.holds in
      let whole : h.page.frame % 2 ^ (j + m) ≡ 0 = ap (λ (n : ℕ). h.page.frame % 2 ^ n) e ∙ g.multiple in
      rw h.is
      (and_both _ _ (eq-eqb _ _ (frame_multiple h.page.frame h.index m j whole h.indexed))
      (and_both _ _ (lt-ltb _ _ (frame_small h.page.frame h.index m j whole h.indexed g.word (omega (arith, g.small))))
      (le-leb _ _ (le_trans (subset_le x h.page.flags h.fewer) g.few))))
  becomes_ok t d (Child o x) h =
      let two : object_no (obj_at st o) ≡ 2 = subst (λ (s : Slot). object_no (obj_at st s) ≡ 2) h.is (stands_found st w h.by) in
      let few : x ≤ 63 = omega (arith, h.few) in
      and_both _ _ (and_both _ _ (eq-eqb _ _ two) (and_both _ _ (eq-eqb _ _ h.orders) (ap not h.below_top))) (le-leb _ _ few)

  pub position_set : {t d : Slot} {i : ℕ} {x : Position} → PositionSet st t d i x → Formed (still (commit st (SetPosition d i x)))
  position_set {t = t} {d = d} {i = i} {x = x} h = set_position d i x h.below (becomes_ok t d x h.becomes)
