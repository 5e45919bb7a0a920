-- An entry stands exactly where its words are clean: flags and parent are read and written again as they are.
use mathlib.Core.Bool.{Bool, false, true}
use mathlib.Core.List.{List, [], ◌∷◌}
use mathlib.Core.Logic.{inl, inr}
use mathlib.Core.Path.{ap, ap₂, refl, sym, ◌∙◌, ◌≡◌}
use Prim.Native.Nat.{◌+◌, ◌<◌, ◌^◌, ℕ, ◌≤◌}
use native.Mathlib.Nat.{add-zero}
use native.Mathlib.Omega.{arith}
use lib.Dec.{eqb}
use lib.ListN.{drop, get_or, length}
use borrow.Author.Tests.{eq-eqb, eqb-false, eqb-true, ne_eqb}
use Rattle.state.specs.Bytes.{frozen_no, parent_no, place_bytes, words_bytes}
use Rattle.state.specs.Read.{frost_from, held, origin_from, place_from, place_of, word_at}
use Rattle.words.proofs.Tests.{and_no, and_yes}
use Rattle.audit_entries.proofs.Entries.{place_cases}
use Rattle.words.specs.Fields.{address, slot}
use Rattle.words.specs.Rights.{high_of, kind_no, low_of, object_of, stamp_of}
use Rattle.words.specs.Tests.{◌&◌}
use Rattle.audit_bytes.specs.Clean.{frost_clean, kind_clean, object_alone, zero_words}
use Rattle.audit_bytes.specs.Names.{None, Directory, Endpoint, Function, Kind, Memory, Process, Table}
use Rattle.audit_bytes.specs.Stands.{place_stands, starts}
use Rattle.audit_bytes.proofs.Runs.{zeros_front, zeros_stand}
use Rattle.audit_bytes.proofs.Tests.{and_assoc, and_end, eqb_self}
use Rattle.audit_bytes.proofs.Words.{Bytes, word_fits, word_slot, words_stand}

-- ---- the frozen mark with its stamp, and the parent
frost_words : (m s : ℕ) → (eqb m (frozen_no (frost_from m s)) & (eqb s (stamp_of (frost_from m s)) & true)) ≡ frost_clean m s
unfolding frost_from frost_clean
frost_words m s = go (eqb m 0) refl
  where
    go : (z : Bool) → eqb m 0 ≡ z → (eqb m (frozen_no (frost_from m s)) & (eqb s (stamp_of (frost_from m s)) & true)) ≡ frost_clean m s
    go true e = rw e (and_yes _ _ e ∙ and_end _ _ refl)
    go false e = rw e (and_end _ _ (and_end _ _ refl ∙ eqb_self s))

parent_back : (w : ℕ) → parent_no (origin_from w) ≡ w
unfolding origin_from
parent_back w = go (eqb w 0) refl
  where
    go : (z : Bool) → eqb w 0 ≡ z → parent_no (origin_from w) ≡ w
    go true e = rw e (sym (eqb-true w 0 e))
    go false e = let d : w ≡ 0 → ⊥ = eqb-false w 0 e in rw e (omega arith)

frost_small : (m s : ℕ) → s < 2 ^ 32 → (frozen_no (frost_from m s) < 2 ^ 32) × (stamp_of (frost_from m s) < 2 ^ 32)
unfolding frost_from
frost_small m s h = go (eqb m 0) refl
  where
    go : (z : Bool) → eqb m 0 ≡ z → (frozen_no (frost_from m s) < 2 ^ 32) × (stamp_of (frost_from m s) < 2 ^ 32)
    go true e = rw e (omega arith, omega arith)
    go false e = rw e (omega arith, h)

module _ (l : List ℕ) (u : Bytes l) (at : ℕ) (in_it : at + 32 ≤ length l) where
  -- the words of the entry, by their offset
  abbrev W : ℕ → ℕ
  W n = word_at l (at + n)

  abbrev kind : ℕ
  kind = word_at l at

  abbrev frozen : Bool
  frozen = frost_clean (W 20) (W 24)

  -- a right of a kind that is read: its flags, mark, stamp and parent are as they stand
  right_stands : (k : Kind) → kind_no k < 2 ^ 32 → low_of k < 2 ^ 32 → high_of k < 2 ^ 32 → (object_of k).0 < 2 ^ 32
      → starts (place_bytes (held k (W 4) (frost_from (W 20) (W 24)) (origin_from (W 28)))) (drop at l)
      ≡ (eqb kind (kind_no k) & (eqb (W 8) (low_of k) & (eqb (W 12) (high_of k) & (eqb (W 16) (object_of k).0 & frozen))))
  unfolding place_bytes
  right_stands k hk hl hh ho =
      let z : at + 0 ≡ at = add-zero at in
      let fr = frost_small (W 20) (W 24) (word_fits l u (at + 24)) in
      let pa : parent_no (origin_from (W 28)) ≡ W 28 = parent_back (W 28) in
      let pf : parent_no (origin_from (W 28)) < 2 ^ 32 = omega (arith, word_fits l u (at + 28)) in
      let ws : List ℕ = kind_no k ∷ W 4 ∷ low_of k ∷ high_of k ∷ (object_of k).0 ∷ frozen_no (frost_from (W 20) (W 24)) ∷ stamp_of (frost_from (W 20) (W 24)) ∷ parent_no (origin_from (W 28)) ∷ [] in
      ap (λ (i : ℕ). starts (words_bytes ws) (drop i l)) (sym z)
      ∙ words_stand l u at 0 ws (omega arith) (hk, (word_fits l u (at + 4), (hl, (hh, (ho, (fr.0, (fr.1, (pf, tt))))))))
      ∙ ap₂ (λ (x y : Bool). x & y) (ap (λ (i : ℕ). eqb (word_at l i) (kind_no k)) z)
      (and_yes _ _ (eqb_self (W 4))
      ∙ ap (λ (y : Bool). eqb (W 8) (low_of k) & (eqb (W 12) (high_of k) & (eqb (W 16) (object_of k).0 & y)))
      (ap (λ (y : Bool). eqb (W 20) (frozen_no (frost_from (W 20) (W 24))) & (eqb (W 24) (stamp_of (frost_from (W 20) (W 24))) & y)) (and_yes _ _ (eq-eqb _ _ (sym pa)))
      ∙ frost_words (W 20) (W 24)))

  abbrev clean : Bool
  clean = kind_clean kind (W 8) (W 12) (W 16) & frozen

  abbrev object : ℕ
  object = get_or l (at + 16) 0

  -- an object and no range, a range and an object, a range and no object
  alone : (eqb (W 8) 0 & (eqb (W 12) 0 & (eqb (W 16) object & frozen))) ≡ (object_alone (W 8) (W 12) (W 16) & frozen)
  unfolding object_alone
  alone =
      ap (λ (x : Bool). eqb (W 8) 0 & (eqb (W 12) 0 & (x & frozen))) (word_slot l u (at + 16))
      ∙ sym (and_assoc (eqb (W 8) 0) _ frozen ∙ ap (λ (x : Bool). eqb (W 8) 0 & x) (and_assoc (eqb (W 12) 0) _ frozen))

  ranged : (x : Bool) → (eqb (W 8) (W 8) & (eqb (W 12) (W 12) & (x & frozen))) ≡ (x & frozen)
  ranged x = and_yes _ _ (eqb_self (W 8)) ∙ and_yes _ _ (eqb_self (W 12))

  object_small : object < 2 ^ 32
  object_small = omega (arith, u (at + 16))

  -- no kind: eight zero words
  zeros : starts (place_bytes None) (drop at l) ≡ (eqb kind 0 & zero_words l (at + 4) 7)
  unfolding place_bytes
  zeros = zeros_stand l u at 8 (omega arith) ∙ zeros_front l at 7

  pub place_blank : kind ≡ 0 → place_stands l at ≡ zero_words l (at + 4) 7
  unfolding place_of place_from
  place_blank e = rw e (zeros ∙ and_yes _ _ (eq-eqb _ _ e))

  pub place_right : (kind ≡ 0 → ⊥) → place_stands l at ≡ clean
  unfolding place_of kind_clean
  place_right d =
      place_cases (λ p. starts (place_bytes p) (drop at l) ≡ clean) _ _ _ _ _ _ _
      (λ e. right_stands (Table (slot object)) (omega arith) (omega arith) (omega arith) object_small ∙ rw e (and_yes _ _ refl ∙ alone))
      (λ e. right_stands (Directory (slot object) (W 8) (W 12)) (omega arith) (word_fits l u (at + 8)) (word_fits l u (at + 12)) object_small ∙ rw e (and_yes _ _ refl ∙ ranged (eqb (W 16) object) ∙ ap (λ (x : Bool). x & frozen) (word_slot l u (at + 16))))
      (λ e. right_stands (Memory (address (W 8)) (address (W 12))) (omega arith) (word_fits l u (at + 8)) (word_fits l u (at + 12)) (omega arith) ∙ rw e (and_yes _ _ refl ∙ ranged (eqb (W 16) 0)))
      (λ e. right_stands (Process (slot object)) (omega arith) (omega arith) (omega arith) object_small ∙ rw e (and_yes _ _ refl ∙ alone))
      (λ e. right_stands (Endpoint (slot object)) (omega arith) (omega arith) (omega arith) object_small ∙ rw e (and_yes _ _ refl ∙ alone))
      (λ e. right_stands (Function (W 8) (W 12)) (omega arith) (word_fits l u (at + 8)) (word_fits l u (at + 12)) (omega arith) ∙ rw e (and_yes _ _ refl ∙ ranged (eqb (W 16) 0)))
      (λ none. elim none [
        | inl z ↦ absurd (d z)
        | inr h ↦
            let other : (k : ℕ) → k ≤ 6 → eqb kind k ≡ false = λ k m. ne_eqb kind k (λ e. omega arith) in
            zeros ∙ and_no _ _ (ne_eqb _ _ d)
            ∙ rw (other 1 (omega arith), other 2 (omega arith), other 3 (omega arith), other 4 (omega arith), other 5 (omega arith), other 6 (omega arith)) (sym (and_no _ _ refl))
      ])
