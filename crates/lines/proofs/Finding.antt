-- The words of a line as the loops find them: past the blanks stands the first word, and behind it the others.
use mathlib.Core.Bool.{Bool, true, false, false≢true}
use mathlib.Core.List.{List, [], ◌∷◌}
use mathlib.Core.Path.{◌≡◌, refl, ap, ◌∙◌}
use Prim.Native.Nat.{ℕ, suc, ◌+◌, ◌-◌, ◌<◌, ◌≤◌}
use native.Mathlib.Decide.{dec_lt}
use native.Mathlib.Omega.{arith}
use lib.ListN.{drop, drop_of_length-le, get_or, length, length-drop, take}
use lib.Seq.{drop-drop, take-nil}
use borrow.Author.Tests.{not-true}
use Rattle.lines.proofs.Runs.{run_ends, run_within}
use Rattle.lines.specs.Names.{Span}
use Rattle.std.specs.List.{prefix_len}
use Rattle.lines.specs.Spans.{blank, past_run, solid, word_after}
use Rattle.lines.specs.Words.{goes_on, grown, words_of}

one_more : (n : ℕ) → 1 + n ≡ suc n
one_more n = omega arith

-- ---- blanks in front do not matter
skip : (l : List ℕ) → words_of l ≡ words_of (drop (prefix_len blank l) l)
unfolding words_of
skip [] = refl
skip (b ∷ bs) = go (blank b) refl (skip bs)
  where
    go : (z : Bool) → blank b ≡ z → words_of bs ≡ words_of (drop (prefix_len blank bs) bs) → words_of (b ∷ bs) ≡ words_of (drop (prefix_len blank (b ∷ bs)) (b ∷ bs))
    go true e ih = rw (e, one_more (prefix_len blank bs)) ih
    go false e ih = rw (e, e)

-- past them a word begins, unless the line is at its end
begins : (l : List ℕ) → prefix_len blank l < length l → goes_on (drop (prefix_len blank l) l) ≡ true
unfolding goes_on
begins [] h = absurd (omega arith)
begins (b ∷ bs) h = go (blank b) refl (begins bs) h
  where
    go : (z : Bool) → blank b ≡ z → (prefix_len blank bs < length bs → goes_on (drop (prefix_len blank bs) bs) ≡ true)
        → prefix_len blank (b ∷ bs) < suc (length bs) → goes_on (drop (prefix_len blank (b ∷ bs)) (b ∷ bs)) ≡ true
    go true e ih h = let k = rw e at h in rw (e, one_more (prefix_len blank bs)) (ih (omega arith))
    go false e ih h = rw (e, e)

-- ---- the word in front
module _ (b : ℕ) (bs : List ℕ) where
  prefix_on : (p : ℕ → Bool) → p b ≡ true → prefix_len p (b ∷ bs) ≡ suc (prefix_len p bs)
  prefix_on p e = rw e (omega arith)

  words_on : blank b ≡ false → goes_on bs ≡ true → words_of (b ∷ bs) ≡ grown b (words_of bs)
  unfolding words_of
  words_on e q = rw (e, q)

  words_last : blank b ≡ false → goes_on bs ≡ false → words_of (b ∷ bs) ≡ (b ∷ []) ∷ words_of bs
  unfolding words_of
  words_last e q = rw (e, q)

prefix_none : (l : List ℕ) → goes_on l ≡ false → prefix_len solid l ≡ 0
unfolding goes_on
prefix_none [] e = refl
prefix_none (b ∷ bs) e = rw e

solid_not : (b : ℕ) → solid b ≡ true → blank b ≡ false
solid_not b e = not-true (blank b) e

front : (l : List ℕ) → goes_on l ≡ true → words_of l ≡ take (prefix_len solid l) l ∷ words_of (drop (prefix_len solid l) l)
unfolding goes_on grown
front [] e = absurd (false≢true e)
front (b ∷ bs) e = go (goes_on bs) refl (front bs)
  where
    go : (z : Bool) → goes_on bs ≡ z → (goes_on bs ≡ true → words_of bs ≡ take (prefix_len solid bs) bs ∷ words_of (drop (prefix_len solid bs) bs))
        → words_of (b ∷ bs) ≡ take (prefix_len solid (b ∷ bs)) (b ∷ bs) ∷ words_of (drop (prefix_len solid (b ∷ bs)) (b ∷ bs))
    go true q ih = words_on b bs (solid_not b e) q ∙ rw (ih q, prefix_on b bs solid e)
    go false q ih = words_last b bs (solid_not b e) q ∙ rw (prefix_on b bs solid e, prefix_none bs q)

filled : (l : List ℕ) → goes_on l ≡ true → 0 < prefix_len solid l
unfolding goes_on
filled [] e = absurd (false≢true e)
filled (b ∷ bs) e = rw (prefix_on b bs solid e) (omega arith)

-- ---- the same by index: s is the first word from `at` on
module _ (l : List ℕ) (at : ℕ) (within : at ≤ length l) (s : Span) (is : s ≡ word_after l at) where
  starts : s.from ≡ at + prefix_len blank (drop at l)
  starts = ap (λ (x : Span). x.from) is ∙ run_within blank l at within

  ends : s.to ≡ s.from + prefix_len solid (drop s.from l)
  ends = rw is (run_within solid l (past_run blank l at) (run_ends blank l at))

  skipped : words_of (drop at l) ≡ words_of (drop s.from l)
  skipped = skip (drop at l) ∙ rw (starts, drop-drop)

  on : s.from < length l → goes_on (drop s.from l) ≡ true
  on h =
      let k : prefix_len blank (drop at l) < length (drop at l) = rw length-drop (omega (arith, starts)) in
      rw (starts, ← drop-drop (prefix_len blank (drop at l)) at l) (begins (drop at l) k)

  pub next_none : length l ≤ s.from → words_of (drop at l) ≡ []
  unfolding words_of
  next_none h = skipped ∙ rw (drop_of_length-le l h)

  pub next_word : s.from < length l → words_of (drop at l) ≡ take (s.to - s.from) (drop s.from l) ∷ words_of (drop s.to l)
  next_word h =
      let k : s.to - s.from ≡ prefix_len solid (drop s.from l) = omega (arith, ends) in
      skipped ∙ front (drop s.from l) (on h) ∙ rw (k, ends, drop-drop)

  pub progress : s.from < length l → at < s.to
  progress h = omega (arith, starts, ends, filled (drop s.from l) (on h))

  -- word 0 from here on, and the later ones; also where there are none
  pub word_here : get_or (words_of (drop at l)) 0 [] ≡ take (s.to - s.from) (drop s.from l)
  word_here = go (dec_lt s.from (length l))
    where
      go : Dec (s.from < length l) → get_or (words_of (drop at l)) 0 [] ≡ take (s.to - s.from) (drop s.from l)
      go (yes h) = rw (next_word h)
      go (no h) = let k : length l ≤ s.from = omega arith in rw (next_none k, drop_of_length-le l k, take-nil)

  pub word_later : (n : ℕ) → get_or (words_of (drop at l)) (suc n) [] ≡ get_or (words_of (drop s.to l)) n []
  unfolding words_of
  word_later n = go (dec_lt s.from (length l))
    where
      go : Dec (s.from < length l) → get_or (words_of (drop at l)) (suc n) [] ≡ get_or (words_of (drop s.to l)) n []
      go (yes h) = rw (next_word h)
      go (no h) =
          let k : length l ≤ s.from = omega arith in
          let j : length l ≤ s.to = omega (arith, ends) in
          rw (next_none k, drop_of_length-le l j)
