-- On a well-formed state the frame of a smaller page fits a word: the source's page is a multiple of its size.
use mathlib.Core.Bool.{Bool, false, false≢true, true}
use mathlib.Core.Path.{ap, refl, sym, ◌∙◌, ◌≡◌}
use Prim.Native.Nat.{◌%◌, ◌*◌, ◌+◌, ◌-◌, ◌<◌, ◌^◌, ℕ, ◌≤◌}
use native.Mathlib.Omega.{arith}
use lib.Dec.{ltb}
use borrow.Author.Tests.{eqb-true, leb-true, ltb-false, ltb-true}
use Rattle.rules.proofs.Facts.{wf_open}
use Rattle.rules.proofs.Pages.{frame_small, shaped}
use Rattle.rules.specs.Calls.{as_page, is_empty}
use Rattle.rules.specs.WellFormed.{framed, geometric, position_ok, still, wf}
use Rattle.state.proofs.Look.{position_past}
use Rattle.state.specs.State.{State, position_at, positions_in, shape_at}
use Rattle.words.proofs.Judged.{not_no, ok_eq}
use Rattle.words.proofs.Tests.{and_left, and_right}
use Rattle.words.specs.Try.{Ok}
use Rattle.judging_pages.specs.Names.{Child, Empty, Frame, Page, Position, Refusal, Slot}

is_page : (r : Refusal) (p : Position) (f : Frame) → as_page r p ≡ Ok f → p ≡ Page f.frame f.flags
is_page r Empty f h = not_no _ r f h
is_page r (Page x y) f h = ap (λ (z : Frame). Page z.frame z.flags) (ok_eq (record { frame = x; flags = y }) f h)
is_page r (Child o y) f h = not_no _ r f h

page_below : (st : State) (s : Slot) (k f x : ℕ) → position_at st s k ≡ Page f x → k < positions_in st s
page_below st s k f x q = go (ltb k (positions_in st s)) refl
  where
    go : (z : Bool) → ltb k (positions_in st s) ≡ z → k < positions_in st s
    go true e = ltb-true _ _ e
    go false e = absurd (false≢true (sym (ap is_empty q) ∙ ap is_empty (position_past st s k (ltb-false _ _ e))))

-- d is the target, s the source, which holds the page f at position k; i is the index
pub frame_fits : (st : State) → wf st ≡ true → (d s : Slot) (k i : ℕ) (r : Refusal) (f : Frame) → as_page r (position_at st s k) ≡ Ok f
    → (shape_at st d).size ≤ (shape_at st s).size → i < 2 ^ ((shape_at st s).size - (shape_at st d).size)
    → ((shape_at st d).size ≤ 31) × (f.frame + i * 2 ^ (shape_at st d).size < 2 ^ 32)
unfolding position_ok framed geometric
frame_fits st h d s k i r f page finer hi =
    let holds : position_at st s k ≡ Page f.frame f.flags = is_page r (position_at st s k) f page in
    let below : k < positions_in st s = page_below st s k f.frame f.flags holds in
    let sh = shaped st (wf_open st h).shape s k below in
    let g : position_ok (still st) (shape_at st s) (Page f.frame f.flags) ≡ true = sym (ap (position_ok (still st) (shape_at st s)) holds) ∙ sh.each k below in
    let small : (shape_at st s).size ≤ 31 = leb-true _ _ (and_left _ _ (and_right _ _ sh.geometry)) in
    let m : ℕ = (shape_at st d).size in
    let j : ℕ = (shape_at st s).size - m in
    let e : j + m ≡ (shape_at st s).size = omega arith in
    let multiple : f.frame % 2 ^ (j + m) ≡ 0 = ap (λ (n : ℕ). f.frame % 2 ^ n) e ∙ eqb-true _ _ (and_left _ _ g) in
    (omega arith, frame_small f.frame i m j multiple hi (ltb-true _ _ (and_left _ _ (and_right _ _ g))) (omega arith))
