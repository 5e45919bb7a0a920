-- Where an object has no root, no right names it: the chain of such a right would come to a root of the object.
use mathlib.Core.Bool.{false≢true, true}
use mathlib.Core.Path.{ap, refl, subst, sym, ◌∙◌, ◌≡◌}
use Prim.Native.Nat.{◌+◌, ℕ}
use native.Mathlib.Omega.{arith}
use borrow.Author.Tests.{eq-eqb}
use Rattle.rules.proofs.Chain.{Reaches, child, root}
use Rattle.rules.proofs.Facts.{right_open}
use Rattle.rules.proofs.Inside.{entries_in_lem}
use Rattle.rules.specs.Chains.{code_of, codes, origin_code}
use Rattle.rules.specs.Places.{spot}
use Rattle.rules.specs.WellFormed.{descends, is_root_of, one, parent_fits, right, right_ok, roots_of}
use Rattle.state.specs.State.{State, entries_in, place_at, place_number, place_numbered, spot_numbered}
use Rattle.words.proofs.Flags.{inside_facts}
use Rattle.words.proofs.Tests.{and_both, and_left, sum_part}
use Rattle.words.specs.Fields.{slot}
use Rattle.words.specs.Rights.{is_root, kind_no, object_of}
use Rattle.words.specs.Tests.{sum_below}
use Rattle.kept.specs.Names.{None, Capability, Some, Origin, Place, Slot, Spot}
use Rattle.kept.proofs.Base.{Base}
use Rattle.kept.proofs.Descent.{fits_of, reaches_right}
use Rattle.kept.proofs.Slots.{holds_in, numbered}

module _ (st : State) (w : Base st) (o : Slot) (n : ℕ) (none : roots_of st n o ≡ 0) where
  right_ok_lem : (p : ℕ) (c : Capability) → place_numbered st p ≡ Some c → right_ok st c ≡ true
  right_ok_lem p c h =
      let s : Spot = spot_numbered st p in
      let l = holds_in st s.table s.entry c h in
      sym (ap (right (right_ok st)) h) ∙ w.rights s.table.0 (entries_in_lem st w.laid s.table s.entry l) s.entry l

  no_root : (t : Slot) (e : ℕ) (c : Capability) → place_at st t e ≡ Some c → is_root_of n o (Some c) ≡ true → ⊥
  unfolding roots_of
  no_root t e c h r =
      let l = holds_in st t e c h in
      let inner = sum_part (entries_in st t) (λ i. one (is_root_of n o (place_at st t i))) e l in
      let outer = sum_part 256 (λ s. sum_below (entries_in st (slot s)) (λ i. one (is_root_of n o (place_at st (slot s) i)))) t.0 (entries_in_lem st w.laid t e l) in
      let z : one (is_root_of n o (place_at st t e)) ≡ 1 = ap (λ (x : Place). one (is_root_of n o x)) h ∙ ap one r in
      omega (arith, inner, outer, z, none)

  no_right : (p : ℕ) → Reaches (codes st) p → (c : Capability) → place_numbered st p ≡ Some c → kind_no c.kind ≡ n → (object_of c.kind).0 ≡ o.0 → ⊥
  unfolding codes
  no_right p (root h) c q e f =
      no_root (spot_numbered st p).table (spot_numbered st p).entry c q (and_both _ _ (go c.origin (sym (ap code_of q) ∙ h)) (and_both _ _ (eq-eqb _ _ e) (eq-eqb _ _ f)))
    where
      go : (r : Origin) → origin_code r ≡ 1 → is_root r ≡ true
      go None k = refl
      go (Some x) k = absurd (omega arith)
  no_right p (child {p = r} h rest) c q e f =
      up (place_numbered st r) refl (go c.origin (sym (ap code_of q) ∙ h) (right_open st c (right_ok_lem p c q)).descent) (λ d. no_right r rest d)
    where
      go : (a : Origin) → origin_code a ≡ r + 2 → descends st c a ≡ true → parent_fits c (place_numbered st r) ≡ true
      go None k d = absurd (omega arith)
      go (Some x) k d = let j : x ≡ r = omega arith in subst (λ (y : ℕ). parent_fits c (place_numbered st y) ≡ true) j (fits_of st c x d).parent

      -- a parent names what its child names
      up : (x : Place) → place_numbered st r ≡ x → parent_fits c (place_numbered st r) ≡ true
          → ((d : Capability) → place_numbered st r ≡ Some d → kind_no d.kind ≡ n → (object_of d.kind).0 ≡ o.0 → ⊥) → ⊥
      up None i k ih = absurd (false≢true (sym (ap (parent_fits c) i) ∙ k))
      up (Some d) i k ih =
          let g = inside_facts c.kind d.kind (and_left _ _ (sym (ap (parent_fits c) i) ∙ k)) in
          ih d i (sym g.kind ∙ e) (sym g.object ∙ f)

  pub unnamed : (t : Slot) (e : ℕ) (c : Capability) → place_at st t e ≡ Some c → kind_no c.kind ≡ n → (object_of c.kind).0 ≡ o.0 → ⊥
  unnamed t e c h a b =
      let p : ℕ = place_number (spot t e) in
      let q : place_numbered st p ≡ Some c = numbered st w.laid (spot t e) (holds_in st t e c h) ∙ h in
      no_right p (reaches_right st c p q (right_ok_lem p c q)) c q a b
