-- A position stands exactly where its two words are clean.
use mathlib.Core.Bool.{Bool, false, true}
use mathlib.Core.List.{List, [], ◌∷◌}
use mathlib.Core.Path.{ap, ap₂, refl, sym, ◌∙◌, ◌≡◌}
use Prim.Native.Nat.{◌%◌, ◌+◌, ◌<◌, ◌^◌, ℕ, ◌≤◌}
use native.Mathlib.Omega.{arith}
use lib.Dec.{eqb, ltb}
use lib.ListN.{drop, get_or, length}
use lib.Seq.{drop-drop}
use borrow.Author.Tests.{eqb-false, eqb-true, ne_eqb}
use Rattle.state.specs.Bytes.{le32, position_bytes}
use Rattle.state.specs.Read.{joined, position_from, position_of, word_at}
use Rattle.words.specs.Tests.{◌&◌}
use Rattle.audit_bytes.specs.Clean.{position_clean}
use Rattle.audit_bytes.specs.Names.{Child, Empty, Page, Position, Slot}
use Rattle.audit_bytes.specs.Stands.{position_stands, starts}
use Rattle.audit_bytes.proofs.Starts.{starts_append}
use Rattle.audit_bytes.proofs.Tests.{and_end, eqb_ltb, eqb_self}
use Rattle.audit_bytes.proofs.Words.{Bytes, joined_split, word_fits, word_low, word_slot, word_stands}

position_cases : (P : Position → Type 0) (t x f : ℕ) (o : Slot) → (t ≡ 1 → P (Page f x)) → (t ≡ 2 → P (Child o x)) → ((t ≡ 1 → ⊥) → (t ≡ 2 → ⊥) → P Empty)
    → P (position_from t x f o)
unfolding position_from
position_cases P t x f o f1 f2 f0 = go (eqb t 1) (eqb t 2) refl refl
  where
    go : (z1 z2 : Bool) → eqb t 1 ≡ z1 → eqb t 2 ≡ z2 → P (position_from t x f o)
    go true z2 e1 e2 = rw e1 (f1 (eqb-true _ _ e1))
    go false true e1 e2 = rw (e1, e2) (f2 (eqb-true _ _ e2))
    go false false e1 e2 = rw (e1, e2) (f0 (eqb-false _ _ e1) (eqb-false _ _ e2))

module _ (l : List ℕ) (u : Bytes l) (at : ℕ) (in_it : at + 8 ≤ length l) where
  abbrev first : ℕ
  first = word_at l at

  abbrev second : ℕ
  second = word_at l (at + 4)

  stands : (t x v : ℕ) → t < 256 → x < 256 → v < 2 ^ 32 → starts (t ∷ x ∷ 0 ∷ 0 ∷ le32 v) (drop at l) ≡ (eqb first (joined t x 0 0) & eqb second v)
  stands t x v ht hx hv =
      starts_append (t ∷ x ∷ 0 ∷ 0 ∷ []) (le32 v) (drop at l)
      ∙ ap₂ (λ (y z : Bool). y & z)
      (ap (λ (w : List ℕ). starts w (drop at l)) (sym (joined_split t x 0 0 ht hx (omega arith) (omega arith))) ∙ word_stands l u at (joined t x 0 0) (omega arith) (omega arith))
      (ap (starts (le32 v)) (drop-drop 4 at l) ∙ word_stands l u (at + 4) v (omega arith) hv)

  -- the first word is the tag and the flags
  whole : (t : ℕ) → t < 256 → get_or l at 0 ≡ t → eqb first (joined t (get_or l (at + 1) 0) 0 0) ≡ ltb first 65536
  unfolding word_at
  whole t ht e = eqb_ltb first (joined t (get_or l (at + 1) 0) 0 0) 65536 (λ q. omega (arith, u (at + 1))) (λ q. omega arith)

  low : (n : ℕ) → get_or l at 0 ≡ n → first % 256 ≡ n
  low n e = word_low l u at ∙ e

  pub position_stands_lem : position_stands l at ≡ position_clean first second
  unfolding position_of position_clean
  position_stands_lem =
      position_cases (λ p. starts (position_bytes p) (drop at l) ≡ position_clean first second) _ _ _ _
      (λ e. rw (low 1 e) (stands 1 _ second (omega arith) (u (at + 1)) (word_fits l u (at + 4)) ∙ and_end _ _ (eqb_self second) ∙ whole 1 (omega arith) e))
      (λ e. rw (low 2 e) (stands 2 _ _ (omega arith) (u (at + 1)) (omega (arith, u (at + 4))) ∙ ap₂ (λ (y z : Bool). y & z) (whole 2 (omega arith) e) (word_slot l u (at + 4))))
      (λ d1 d2. rw (ne_eqb _ _ (λ z. d1 (sym (word_low l u at) ∙ z)), ne_eqb _ _ (λ z. d2 (sym (word_low l u at) ∙ z))) (stands 0 0 0 (omega arith) (omega arith) (omega arith)))
