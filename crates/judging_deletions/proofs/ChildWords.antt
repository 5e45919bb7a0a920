-- An entry by two of its words: it holds a child of the place of number n where its parent's word is n + 1 and its kind is one of six.
use mathlib.Core.Bool.{Bool, false, true}
use mathlib.Core.List.{List}
use mathlib.Core.Path.{refl, ◌≡◌}
use Prim.Native.Nat.{◌+◌, ◌-◌, ◌<◌, suc, zero, ℕ}
use native.Mathlib.Omega.{arith}
use lib.Dec.{eqb, leb, ltb}
use borrow.Author.Tests.{eq-eqb, eqb-false, lt-leb, ne_eqb}
use Rattle.rules.specs.Places.{is_child_of}
use Rattle.state.specs.Read.{origin_from, place_from, place_of, word_at}
use Rattle.words.specs.Rights.{is_under}
use Rattle.words.specs.Tests.{◌&◌}
use Rattle.judging_deletions.specs.Names.{Frost, Origin, Slot}

abbrev is_kind : ℕ → Bool
is_kind t = ltb 0 t & leb t 6

and_true : (a : Bool) → a ≡ (a & true)
unfolding ◌&◌
and_true true = refl
and_true false = refl

and_false : (a : Bool) → false ≡ (a & false)
unfolding ◌&◌
and_false true = refl
and_false false = refl

module _ (n : ℕ) (o : Slot) (l h f : ℕ) (x : Frost) (r : Origin) where
  past : (t : ℕ) → 6 < t → is_child_of n (place_from t o l h f x r) ≡ (is_under n r & is_kind t)
  unfolding place_from ◌&◌
  past t m =
      rw (ne_eqb t 1 (λ z. omega arith), ne_eqb t 2 (λ z. omega arith), ne_eqb t 3 (λ z. omega arith), ne_eqb t 4 (λ z. omega arith), ne_eqb t 5 (λ z. omega arith), ne_eqb t 6 (λ z. omega arith), lt-leb t 6 m)
      (none (ltb 0 t))
    where
      none : (z : Bool) → false ≡ (is_under n r & (z & false))
      none true = and_false (is_under n r)
      none false = and_false (is_under n r)

  child_from : (t : ℕ) → is_child_of n (place_from t o l h f x r) ≡ (is_under n r & is_kind t)
  unfolding place_from ◌&◌
  child_from zero = and_false (is_under n r)
  child_from (suc zero) = and_true (is_under n r)
  child_from (suc (suc zero)) = and_true (is_under n r)
  child_from (suc (suc (suc zero))) = and_true (is_under n r)
  child_from (suc (suc (suc (suc zero)))) = and_true (is_under n r)
  child_from (suc (suc (suc (suc (suc zero))))) = and_true (is_under n r)
  child_from (suc (suc (suc (suc (suc (suc zero)))))) = and_true (is_under n r)
  child_from (suc (suc (suc (suc (suc (suc (suc t))))))) = past (suc (suc (suc (suc (suc (suc (suc t))))))) (omega arith)

pub child_words : (p : List ℕ) (at n : ℕ) → is_child_of n (place_of p at) ≡ (is_under n (origin_from (word_at p (at + 28))) & is_kind (word_at p at))
unfolding place_of
child_words p at n = child_from n _ _ _ _ _ (origin_from (word_at p (at + 28))) (word_at p at)

-- ---- the parent's word
pub under_yes : (w n : ℕ) → w ≡ n + 1 → is_under n (origin_from w) ≡ true
unfolding origin_from
under_yes w n e = rw (ne_eqb w 0 (λ z. omega arith)) (eq-eqb (w - 1) n (omega arith))

pub under_no : (w n : ℕ) → (w ≡ n + 1 → ⊥) → is_under n (origin_from w) ≡ false
unfolding origin_from
under_no w n d = go (eqb w 0) refl
  where
    go : (z : Bool) → eqb w 0 ≡ z → is_under n (origin_from w) ≡ false
    go true e = rw e
    go false e = let some : w ≡ 0 → ⊥ = eqb-false w 0 e in rw e (ne_eqb (w - 1) n (λ z. d (omega arith)))
