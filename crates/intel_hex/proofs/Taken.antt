-- What the number of lines taken says: all lines where the text gives bytes, fewer where one of them is faulty.
use mathlib.Core.List.{List, [], ◌∷◌}
use mathlib.Core.Path.{◌≡◌, refl, ap}
use Prim.Native.Nat.{ℕ, suc, ◌<◌, ◌≤◌}
use native.Mathlib.Omega.{arith}
use lib.ListN.{length}
use Rattle.words.specs.Sizes.{state_length}
use Rattle.intel_hex.specs.Lines.{lines_of}
use Rattle.intel_hex.specs.Names.{Fault, Address, End, Line, Sum}
use Rattle.intel_hex.specs.Reading.{Given, Result, Step, bad, faulty, gives, line_step, lines_taken, nothing_more, on, over, read_lines, read_text, start, taken_of}
use Rattle.intel_hex.proofs.Steps.{line_bad, line_on, line_over, taken_bad, taken_on, taken_over}

-- k lines of n are taken
abbrev Says : Result → ℕ → ℕ → Type 0
Says (gives b) k n = k ≡ n
Says (faulty Line) k n = k < n
Says (faulty Sum) k n = k < n
Says (faulty Address) k n = k < n
Says (faulty End) k n = k ≤ n

one_more : (x : Result) (k n : ℕ) → Says x k n → Says x (suc k) (suc n)
one_more (gives b) k n h = ap suc h
one_more (faulty Line) k n h = omega arith
one_more (faulty Sum) k n h = omega arith
one_more (faulty Address) k n h = omega arith
one_more (faulty End) k n h = omega arith

at_once : (f : Fault) (n : ℕ) → Says (faulty f) 0 (suc n)
at_once Line n = omega arith
at_once Sum n = omega arith
at_once Address n = omega arith
at_once End n = omega arith

ended : (b : List ℕ) (ls : List (List ℕ)) → Says (nothing_more b ls) 1 (suc (length ls))
unfolding nothing_more
ended b [] = refl
ended b (l ∷ ls) = omega arith

lines_say : (g : Given) (ls : List (List ℕ)) → Says (read_lines g ls) (lines_taken g ls) (length ls)
unfolding read_lines lines_taken
lines_say g [] = omega arith
lines_say g (l ∷ ls) = go (line_step g l) refl (λ h. lines_say h ls)
  where
    go : (s : Step) → line_step g l ≡ s → ((h : Given) → Says (read_lines h ls) (lines_taken h ls) (length ls)) → Says (read_lines g (l ∷ ls)) (lines_taken g (l ∷ ls)) (suc (length ls))
    go (on h) e rest = rw (line_on g l ls h e, taken_on g l ls h e) (one_more (read_lines h ls) (lines_taken h ls) (length ls) (rest h))
    go (over b) e rest = rw (line_over g l ls b e, taken_over g l ls b e) (ended b ls)
    go (bad f) e rest = rw (line_bad g l ls f e, taken_bad g l ls f e) (at_once f (length ls))

module _ (t : List ℕ) where
  says : Says (read_text t) (taken_of t) (length (lines_of t))
  unfolding read_text taken_of
  says = lines_say (start state_length) (lines_of t)

  pub taken_all : (b : List ℕ) → read_text t ≡ gives b → taken_of t ≡ length (lines_of t)
  taken_all b e = rw e at says

  -- a line is there behind those taken
  pub taken_before : (f : Fault) → (f ≡ End → ⊥) → read_text t ≡ faulty f → taken_of t < length (lines_of t)
  taken_before Line n e = rw e at says
  taken_before Sum n e = rw e at says
  taken_before Address n e = rw e at says
  taken_before End n e = absurd (n refl)

  pub taken_most : taken_of t ≤ length (lines_of t)
  taken_most = go (read_text t) says
    where
      go : (x : Result) → Says x (taken_of t) (length (lines_of t)) → taken_of t ≤ length (lines_of t)
      go (gives b) h = omega arith
      go (faulty Line) h = omega arith
      go (faulty Sum) h = omega arith
      go (faulty Address) h = omega arith
      go (faulty End) h = h
