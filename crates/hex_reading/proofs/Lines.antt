-- A line as the code finds it and takes it apart.
use Rattle.std.proofs.Common.{Bool, true, false, List, [], ◌∷◌, ◌≡◌, refl, ap, sym, ◌∙◌, ℕ, suc, ◌+◌, ◌-◌, ◌<◌, ◌≤◌, ◌&&◌, Option, None, Some, MatchOption, length, get_or, take, drop, nat_eq, arith, length-drop}
use native.Mathlib.Decide.{dec_le}
use lib.Dec.{eqb, ltb}
use lib.Seq.{drop-cons, drop-length}
use borrow.Author.Tests.{lt-ltb, le-ltb, ne_eqb}
use Rattle.std.specs.List.{list_all, position, position_or_len}
use Rattle.std.specs.Option.{unwrap_or}
use Rattle.std.specs.Cmp.Lexicographic.{pointwise}
use Rattle.words.proofs.Tests.{and_right}
use Rattle.words.specs.Tests.{◌&◌, choose}
use Rattle.digits.specs.Digits.{all_digits, digit_of}
use Rattle.intel_hex.specs.Lines.{body_of, last_of, line_length, lines_of, readable, spelled_by}
use Rattle.intel_hex.specs.Pairs.{all_hex}
use Rattle.intel_hex.specs.Records.{whole}
use Rattle.intel_hex.proofs.Finding.{line_ahead, lines_at}

pub hex_all : (l : List ℕ) → list_all (λ b. ltb (digit_of b) 16) l ≡ all_hex l
unfolding all_digits ◌&◌
hex_all [] = refl
hex_all (b ∷ l) = go (ltb (digit_of b) 16) (hex_all l)
  where
    go : (z : Bool) → list_all (λ b. ltb (digit_of b) 16) l ≡ all_hex l → (z && list_all (λ b. ltb (digit_of b) 16) l) ≡ (z & all_hex l)
    go true e = e
    go false e = refl

-- ---- where the first line ends, by the index of its line feed
abbrev pub end_at : Option ℕ → List ℕ → ℕ
end_at None t = length t
end_at (Some i) t = i + 1

abbrev feed : List ℕ → Option ℕ
feed t = position (λ b. nat_eq b 10) t

abbrev before : List ℕ → ℕ
before t = position_or_len (λ b. nat_eq b 10) t

line_end : (t : List ℕ) → line_length t ≡ end_at (feed t) t
unfolding line_length
line_end [] = refl
line_end (x ∷ xs) = go (eqb x 10) refl (dec_le (suc (before xs)) (length xs)) (line_end xs)
  where
    go : (z : Bool) → eqb x 10 ≡ z → Dec (suc (before xs) ≤ length xs) → line_length xs ≡ end_at (feed xs) xs → choose (eqb x 10) 1 (suc (line_length xs)) ≡ end_at (feed (x ∷ xs)) (x ∷ xs)
    go true e d h = rw (e, lt-ltb 0 (suc (length xs)) (omega arith))
    go false e (yes k) h = let i = rw (lt-ltb (before xs) (length xs) (omega arith)) at h in rw (e, lt-ltb (1 + before xs) (suc (length xs)) (omega arith)) (omega (arith, i))
    go false e (no k) h = let i = rw (le-ltb (before xs) (length xs) (omega arith)) at h in rw (e, le-ltb (1 + before xs) (suc (length xs)) (omega arith)) (omega (arith, i))

pub line_ends : (t : List ℕ) (o : Option ℕ) → o ≡ feed t → line_length t ≡ end_at o t
line_ends t o e = line_end t ∙ ap (λ (p : Option ℕ). end_at p t) (sym e)

-- a text that is taken apart
module _ (t line behind : List ℕ) (h : 0 < length t) where
  pub first_line : line ≡ take (line_length t) t → behind ≡ drop (line_length t) t → lines_of t ≡ line ∷ lines_of behind
  first_line e f = rw (e, f) (lines_at t 0 h)

  pub behind_shorter : behind ≡ drop (line_length t) t → length behind < length t
  behind_shorter f = omega (arith, ap length f, length-drop (line_length t) t, line_ahead t 0 h)

-- ---- the first and the last character
and_true : (z : Bool) → (z && true) ≡ z
and_true true = refl
and_true false = refl

pub begins : (l : List ℕ) (c : ℕ) → pointwise nat_eq (take 1 l) (suc c ∷ []) ≡ eqb (get_or l 0 0) (suc c)
begins [] c = sym (ne_eqb 0 (suc c) (λ e. omega arith))
begins (x ∷ xs) c = and_true (eqb x (suc c))

pub ends : (l : List ℕ) (c : ℕ) → pointwise nat_eq (drop (length l - 1) l) (suc c ∷ []) ≡ eqb (last_of l) (suc c)
ends [] c = sym (ne_eqb 0 (suc c) (λ e. omega arith))
ends (x ∷ xs) c =
    let e : suc (length xs) - 1 ≡ length xs = omega arith in
    rw (e, drop-cons (x ∷ xs) (length xs) 0 (omega arith), drop-length xs) (and_true (eqb (get_or (x ∷ xs) (length xs) 0) (suc c)))

-- the value of an option, or else another one
pub unwrapped : {X : Type 0} (now : X → List ℕ) (r : Option X) (b : X) (l : List ℕ) {N : Type 0} {S : X → Type 0} → MatchOption r N S → (N → now b ≡ l) → ((x : X) → S x → now x ≡ l) → now (unwrap_or r b) ≡ l
unwrapped now None b l m n s = n m
unwrapped now (Some x) b l m n s = s x m

pub readable_whole : (l : List ℕ) → readable l ≡ true → whole (spelled_by (body_of l)) ≡ true
unfolding readable
readable_whole l h = and_right _ _ (and_right _ _ h)
