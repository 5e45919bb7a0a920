-- "the first faulty line decides": what stands behind it is not looked at.
use mathlib.Core.List.{List, [], ◌∷◌, ◌++◌}
use mathlib.Core.Path.{◌≡◌, refl, ap, sym, ◌∙◌}
use mathlib.Core.Bool.{Bool, true, false}
use Prim.Native.Nat.{ℕ, zero, suc}
use lib.Dec.{eqb}
use native.Mathlib.Omega.{arith}
use lib.ListN.{take, drop, take-append-drop}
use lib.Seq.{take-nil, take-take}
use Rattle.words.specs.Sizes.{state_length}
use Rattle.words.specs.Tests.{choose}
use Rattle.intel_hex.specs.Lines.{lines_of, longer}
use Rattle.intel_hex.specs.Marks.{line_feed}
use Rattle.intel_hex.specs.Names.{Fault, Address, End, Line, Sum}
use Rattle.intel_hex.specs.Reading.{Given, Result, Step, bad, faulty, gives, line_step, lines_taken, nothing_more, on, over, read_lines, read_text, start, taken_of}
use Rattle.intel_hex.specs.Tolerance.{joined}
use Rattle.intel_hex.proofs.Steps.{line_bad, line_on, line_over, taken_bad, taken_on}

-- a fault of a line that is there: y has it too
abbrev Shares : Result → Result → Type 0
Shares (gives b) y = Unit {0}
Shares (faulty Line) y = y ≡ faulty Line
Shares (faulty Sum) y = y ≡ faulty Sum
Shares (faulty Address) y = y ≡ faulty Address
Shares (faulty End) y = Unit {0}

itself : (f : Fault) → Shares (faulty f) (faulty f)
itself Line = refl
itself Sum = refl
itself Address = refl
itself End = tt

ended : (b : List ℕ) (ls : List (List ℕ)) (y : Result) → Shares (nothing_more b ls) y
unfolding nothing_more
ended b [] y = tt
ended b (l ∷ ls) y = tt

lines_share : (more : List (List ℕ)) (g : Given) (ls : List (List ℕ)) → Shares (read_lines g ls) (read_lines g (take (suc (lines_taken g ls)) ls ++ more))
unfolding read_lines
lines_share more g [] = tt
lines_share more g (l ∷ ls) = go (line_step g l) refl (λ h. lines_share more h ls)
  where
    go : (s : Step) → line_step g l ≡ s → ((h : Given) → Shares (read_lines h ls) (read_lines h (take (suc (lines_taken h ls)) ls ++ more)))
        → Shares (read_lines g (l ∷ ls)) (read_lines g (take (suc (lines_taken g (l ∷ ls))) (l ∷ ls) ++ more))
    go (on h) e rest = rw (taken_on g l ls h e, line_on g l ls h e, line_on g l (take (suc (lines_taken h ls)) ls ++ more) h e) (rest h)
    go (over b) e rest = rw (line_over g l ls b e) (ended b ls _)
    go (bad f) e rest = rw (taken_bad g l ls f e, line_bad g l ls f e, line_bad g l more f e) (itself f)

shared : (f : Fault) (x y : Result) → (f ≡ End → ⊥) → x ≡ faulty f → Shares x y → y ≡ faulty f
shared Line x y n e h = rw e at h
shared Sum x y n e h = rw e at h
shared Address x y n e h = rw e at h
shared End x y n e h = absurd (n refl)

-- a text u that begins with the same lines, up to the faulty one
pub first_decides : (t u : List ℕ) (f : Fault) → (f ≡ End → ⊥) → read_text t ≡ faulty f
    → take (suc (taken_of t)) (lines_of u) ≡ take (suc (taken_of t)) (lines_of t) → read_text u ≡ faulty f
unfolding read_text taken_of
first_decides t u f n e q =
    let k = suc (lines_taken (start state_length) (lines_of t)) in
    let more = drop k (lines_of u) in
    let s : lines_of u ≡ take k (lines_of t) ++ more = sym (take-append-drop k (lines_of u)) ∙ ap (λ (ls : List (List ℕ)). ls ++ more) q in
    ap (read_lines (start state_length)) s ∙ shared f _ _ n e (lines_share more (start state_length) (lines_of t))

-- ---- a text cut behind its faulty line is such a text
cut_lines : (n : ℕ) (t : List ℕ) → lines_of (joined (take n (lines_of t))) ≡ take n (lines_of t)
unfolding lines_of longer joined
cut_lines zero t = refl
cut_lines (suc n) [] = refl
cut_lines (suc n) (c ∷ cs) = go (eqb c line_feed) refl (cut_lines n cs) (lines_of cs) (cut_lines (suc n) cs)
  where
    go : (z : Bool) → eqb c line_feed ≡ z → lines_of (joined (take n (lines_of cs))) ≡ take n (lines_of cs) → (ls : List (List ℕ)) → lines_of (joined (take (suc n) ls)) ≡ take (suc n) ls
        → lines_of (joined (take (suc n) (choose (eqb c line_feed) ((c ∷ []) ∷ lines_of cs) (longer c ls)))) ≡ take (suc n) (choose (eqb c line_feed) ((c ∷ []) ∷ lines_of cs) (longer c ls))
    go true e h ls k = rw (e, h, e)
    go false e h [] k = rw (e, take-nil {A = List ℕ} n, e)
    go false e h (l ∷ ls) k = rw (e, k, e)

pub cut_same : (t : List ℕ) (f : Fault) → (f ≡ End → ⊥) → read_text t ≡ faulty f → read_text (joined (take (suc (taken_of t)) (lines_of t))) ≡ faulty f
cut_same t f n e =
    let k = suc (taken_of t) in
    first_decides t (joined (take k (lines_of t))) f n e (ap (take k) (cut_lines k t) ∙ take-take k k (lines_of t) (omega arith))
