-- Words and their four bytes: a word stands where it is read, and its lowest bytes are the first.
use mathlib.Core.Bool.{Bool, true}
use mathlib.Core.List.{List, [], ◌∷◌}
use mathlib.Core.Path.{ap, ap₂, refl, sym, ◌∙◌, ◌≡◌}
use Prim.Native.Nat.{◌%◌, ◌*◌, ◌+◌, ◌/◌, ◌<◌, ◌^◌, suc, ℕ, ◌≤◌}
use native.Mathlib.Nat.{mod-eq_of_lt}
use native.Mathlib.Omega.{arith}
use lib.Arith.{digits_div, digits_mod}
use lib.Dec.{eqb, ltb}
use lib.ListN.{drop, get_or, length}
use lib.Seq.{drop-cons, drop-drop}
use borrow.Author.Tests.{eq-eqb, eqb-true}
use Rattle.state.specs.Bytes.{le32, words_bytes}
use Rattle.state.specs.Read.{joined, word_at}
use Rattle.words.proofs.Tests.{iff}
use Rattle.words.specs.Tests.{◌&◌}
use Rattle.audit_bytes.specs.Stands.{starts}
use Rattle.audit_bytes.proofs.Starts.{starts_append, starts_nil, starts_same, starts_self}
use Rattle.audit_bytes.proofs.Tests.{eqb_ltb}

-- every element is a byte
abbrev pub Bytes : List ℕ → Type 0
Bytes l = (k : ℕ) → get_or l k 0 < 256

pub joined_split : (a b c d : ℕ) → a < 256 → b < 256 → c < 256 → d < 256 → le32 (joined a b c d) ≡ a ∷ b ∷ c ∷ d ∷ []
joined_split a b c d ha hb hc hd =
    let e : joined a b c d ≡ ((d * 256 + c) * 256 + b) * 256 + a = omega arith in
    let q1 : joined a b c d / 256 ≡ (d * 256 + c) * 256 + b = ap (λ (n : ℕ). n / 256) e ∙ digits_div ((d * 256 + c) * 256 + b) ha in
    let q2 : joined a b c d / 256 / 256 ≡ d * 256 + c = ap (λ (n : ℕ). n / 256) q1 ∙ digits_div (d * 256 + c) hb in
    let q3 : joined a b c d / 256 / 256 / 256 ≡ d = ap (λ (n : ℕ). n / 256) q2 ∙ digits_div d hc in
    let e0 : joined a b c d % 256 ≡ a = ap (λ (n : ℕ). n % 256) e ∙ digits_mod ((d * 256 + c) * 256 + b) ha in
    let e1 : joined a b c d / 256 % 256 ≡ b = ap (λ (n : ℕ). n % 256) q1 ∙ digits_mod (d * 256 + c) hb in
    let e2 : joined a b c d / 256 / 256 % 256 ≡ c = ap (λ (n : ℕ). n % 256) q2 ∙ digits_mod d hc in
    let e3 : joined a b c d / 256 / 256 / 256 % 256 ≡ d = ap (λ (n : ℕ). n % 256) q3 ∙ mod-eq_of_lt hd in
    λ i. e0 i ∷ e1 i ∷ e2 i ∷ e3 i ∷ []

four : (l : List ℕ) (n : ℕ) → n + 4 ≤ length l → drop n l ≡ get_or l n 0 ∷ get_or l (n + 1) 0 ∷ get_or l (n + 2) 0 ∷ get_or l (n + 3) 0 ∷ drop (n + 4) l
four l n h =
    let e1 : suc n ≡ n + 1 = omega arith in
    let e2 : suc (n + 1) ≡ n + 2 = omega arith in
    let e3 : suc (n + 2) ≡ n + 3 = omega arith in
    let e4 : suc (n + 3) ≡ n + 4 = omega arith in
    let d0 = drop-cons l n 0 (omega arith) in
    let d1 = drop-cons l (n + 1) 0 (omega arith) in
    let d2 = drop-cons l (n + 2) 0 (omega arith) in
    let d3 = drop-cons l (n + 3) 0 (omega arith) in
    rw (d0, e1, d1, e2, d2, e3, d3, e4)

module _ (l : List ℕ) (u : Bytes l) where
  pub word_fits : (at : ℕ) → word_at l at < 2 ^ 32
  unfolding word_at
  word_fits at = omega (arith, u at, u (at + 1), u (at + 2), u (at + 3))

  -- the lowest byte, and a word that is no more than it
  pub word_low : (at : ℕ) → word_at l at % 256 ≡ get_or l at 0
  unfolding word_at
  word_low at =
      let a = get_or l at 0 in
      let r = (get_or l (at + 3) 0 * 256 + get_or l (at + 2) 0) * 256 + get_or l (at + 1) 0 in
      let e : word_at l at ≡ r * 256 + a = omega arith in
      ap (λ (n : ℕ). n % 256) e ∙ digits_mod r (u at)

  pub word_slot : (at : ℕ) → eqb (word_at l at) (get_or l at 0) ≡ ltb (word_at l at) 256
  unfolding word_at
  word_slot at = eqb_ltb (word_at l at) (get_or l at 0) 256 (λ e. omega (arith, u at)) (λ h. omega arith)

  -- a word stands exactly where it is read
  pub word_stands : (at w : ℕ) → at + 4 ≤ length l → w < 2 ^ 32 → starts (le32 w) (drop at l) ≡ eqb (word_at l at) w
  unfolding word_at
  word_stands at w h f =
      let a = get_or l at 0 in
      let b = get_or l (at + 1) 0 in
      let c = get_or l (at + 2) 0 in
      let d = get_or l (at + 3) 0 in
      let split : le32 (joined a b c d) ≡ a ∷ b ∷ c ∷ d ∷ [] = joined_split a b c d (u at) (u (at + 1)) (u (at + 2)) (u (at + 3)) in
      let there : (x : ℕ) → joined a b c d ≡ x → starts (le32 x) (drop at l) ≡ true =
      λ x e. rw (← e, split, four l at h) (starts_self (a ∷ b ∷ c ∷ d ∷ []) (drop (at + 4) l)) in
      let back : starts (le32 w) (drop at l) ≡ true → le32 w ≡ a ∷ b ∷ c ∷ d ∷ [] =
      λ t. starts_same (le32 w) (a ∷ b ∷ c ∷ d ∷ []) (drop (at + 4) l) refl (rw (four l at h) at t) in
      let again : joined (w % 256) (w / 256 % 256) (w / 256 / 256 % 256) (w / 256 / 256 / 256 % 256) ≡ w = omega arith in
      iff _ _
      (λ t. eq-eqb _ w (sym (ap (λ (x : List ℕ). joined (get_or x 0 0) (get_or x 1 0) (get_or x 2 0) (get_or x 3 0)) (back t)) ∙ again))
      (λ t. there w (eqb-true _ w t))

-- ---- words one after the other: n bytes behind `at`
abbrev pub words_are : List ℕ → ℕ → ℕ → List ℕ → Bool
words_are l at n [] = true
words_are l at n (w ∷ ws) = eqb (word_at l (at + n)) w & words_are l at (n + 4) ws

abbrev pub Small : List ℕ → Type 0
Small [] = Unit {0}
Small (w ∷ ws) = (w < 2 ^ 32) × Small ws

pub words_stand : (l : List ℕ) → Bytes l → (at n : ℕ) (ws : List ℕ) → at + n + 4 * length ws ≤ length l → Small ws → starts (words_bytes ws) (drop (at + n) l) ≡ words_are l at n ws
words_stand l u at n [] h s = starts_nil (drop (at + n) l)
words_stand l u at n (w ∷ ws) h s =
    let q : at + n + 4 ≡ at + (n + 4) = omega arith in
    starts_append (le32 w) (words_bytes ws) (drop (at + n) l)
    ∙ ap₂ (λ (x y : Bool). x & y) (word_stands l u (at + n) w (omega arith) s.0)
    (ap (starts (words_bytes ws)) (drop-drop 4 (at + n) l ∙ ap (λ (i : ℕ). drop i l) q) ∙ words_stand l u at (n + 4) ws (omega arith) s.1)
