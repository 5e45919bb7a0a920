-- A place whose right has no child: when it is blanked, each other right fits under its parent as it did.
use mathlib.Core.Bool.{false, false≢true, true}
use mathlib.Core.Path.{ap, refl, sym, ◌∙◌, ◌≡◌}
use Prim.Native.Nat.{◌+◌, ◌<◌, ℕ}
use native.Mathlib.Omega.{arith}
use borrow.Author.Tests.{eq-eqb}
use Rattle.rules.proofs.Inside.{entries_in_lem, laid_out}
use Rattle.rules.specs.Chains.{code_of, codes, origin_code}
use Rattle.rules.specs.Formed.{Formed}
use Rattle.rules.specs.Places.{has_children, is_child_of}
use Rattle.state.specs.State.{State, entries_in, place_at, place_number, place_numbered, put_place, spot_numbered}
use Rattle.words.proofs.Tests.{any_none}
use Rattle.words.specs.Fields.{slot}
use Rattle.words.specs.Rights.{is_under}
use Rattle.kept.specs.Names.{None, Capability, Some, Origin, Place, Slot, Spot}
use Rattle.kept.proofs.Base.{base}
use Rattle.kept.proofs.Descent.{Fits, fits_gone}
use Rattle.kept.proofs.PutPlace.{but_numbered}
use Rattle.kept.proofs.Slots.{holds_in}

under_code : (n : ℕ) (p : Place) → code_of p ≡ n + 2 → is_child_of n p ≡ true
under_code n None h = absurd (omega arith)
under_code n (Some c) h = go c.origin h
  where
    go : (o : Origin) → origin_code o ≡ n + 2 → is_under n o ≡ true
    go None k = absurd (omega arith)
    go (Some q) k = eq-eqb q n (omega arith)

child_in_lem : (st : State) (t : Slot) (e n : ℕ) → is_child_of n (place_at st t e) ≡ true → e < entries_in st t
child_in_lem st t e n = go (place_at st t e) refl
  where
    go : (p : Place) → place_at st t e ≡ p → is_child_of n (place_at st t e) ≡ true → e < entries_in st t
    go None q h = absurd (false≢true (sym (ap (is_child_of n) q) ∙ h))
    go (Some c) q h = holds_in st t e c q

module _ (st : State) (w : Formed st) (p : Spot) (he : p.entry < entries_in st p.table) (childless : has_children st p ≡ false) where
  no_child : (s : Slot) (i : ℕ) → is_child_of (place_number p) (place_at st s i) ≡ true → ⊥
  unfolding has_children
  no_child s i h =
      let l = child_in_lem st s i (place_number p) h in
      let a = any_none 256 _ childless s.0 (entries_in_lem st (laid_out w) s i l) in
      absurd (false≢true (sym (any_none _ _ a i l) ∙ h))

  pub childless_fits : (s i : ℕ) (c : Capability) → place_at st (slot s) i ≡ Some c → (n : ℕ) → c.origin ≡ Some n → Fits st c n → Fits (put_place st p None) c n
  unfolding codes
  childless_fits s i c q n from f =
      fits_gone st (put_place st p None) (place_number p) (but_numbered st (base w) p None he)
      (λ y h. no_child (spot_numbered st y).table (spot_numbered st y).entry (under_code (place_number p) (place_numbered st y) h))
      c n (λ z. no_child (slot s) i (rw (q, from) (eq-eqb n (place_number p) z))) f
