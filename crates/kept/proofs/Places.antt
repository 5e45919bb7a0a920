-- One place of a table, written: the right that a delegation grants, a right frozen, a right removed.
use mathlib.Core.Bool.{true}
use mathlib.Core.Path.{ap, refl, subst, sym, ◌∙◌, ◌≡◌}
use Prim.Native.Nat.{◌<◌, ◌^◌, ℕ}
use native.Mathlib.Nat.{le_trans}
use borrow.Author.Tests.{lt-ltb}
use Rattle.passed.proofs.Stand.{held_right}
use Rattle.passed.specs.Passed.{Delegation, Freezing, Removal}
use Rattle.rules.proofs.Facts.{right_close}
use Rattle.rules.proofs.Inside.{laid_out}
use Rattle.rules.specs.Calls.{asked_flags}
use Rattle.rules.specs.Commit.{commit, froze}
use Rattle.rules.specs.Formed.{Formed, RightFormed}
use Rattle.rules.specs.Places.{has_children}
use Rattle.rules.specs.WellFormed.{descends, parent_fits, right, right_ok, still}
use Rattle.state.specs.State.{State, place_at, place_number, place_numbered, put_place}
use Rattle.words.proofs.Flags.{subset_le}
use Rattle.words.proofs.Tests.{and_both, and_left, and_right}
use Rattle.words.specs.Tests.{◌&◌}
use Rattle.kept.specs.Names.{None, Capability, Fill, Freeze, Frozen, Some, Origin, Place, Remove, Slot, Spot, Words}
use Rattle.kept.proofs.Base.{base}
use Rattle.kept.proofs.Childless.{childless_fits}
use Rattle.kept.proofs.Descent.{Fits, fits_frozen, of_fits, reaches_right}
use Rattle.kept.proofs.Grants.{grant_ends, grant_flags, grant_names}
use Rattle.kept.proofs.PutPlace.{but_numbered, fits_filled, new_numbered, place_formed, right_keep}
use Rattle.kept.proofs.Slots.{numbered}

-- ---- a right that is frozen
abbrev frozen_right : Capability → ℕ → Capability
frozen_right c n = record { kind = c.kind; flags = c.flags; frost = Frozen n; origin = c.origin }

frozen_ok : (st : State) (c : Capability) (n : ℕ) → n < 2 ^ 32 → RightFormed st c → right_ok st (frozen_right c n) ≡ true
unfolding descends
frozen_ok st c n l r =
    right_close st (frozen_right c n) (record { stands = r.stands; ends = r.ends; flags = r.flags; stamp = lt-ltb _ _ l; descent = go c.origin r.descent })
  where
    go : (o : Origin) → descends st c o ≡ true → descends st (frozen_right c n) o ≡ true
    go None d = d
    go (Some p) d = and_both _ _ (fit (place_numbered st p) (and_left _ _ d)) (and_right _ _ d)
      where
        fit : (x : Place) → parent_fits c x ≡ true → parent_fits (frozen_right c n) x ≡ true
        fit None e = e
        fit (Some q) e = e

module _ (st : State) (w : Formed (still st)) where
  abbrev ss : State
  ss = still st

  -- "a child has its parent's kind and object, flags and range inside the parent's"
  grant_ok : (t : Slot) (v : Words) (p : Spot) (g : Capability) → Delegation st t v p g → right_ok ss g ≡ true
  grant_ok t v p g h =
      let c : Capability = h.right in
      let parent = held_right st w h.stands in
      let n : ℕ = place_number h.source in
      let at : place_numbered ss n ≡ Some c = numbered ss (laid_out w) h.source h.stands.below ∙ h.stands.holds in
      let fit : parent_fits g (place_numbered ss n) ≡ true = rw (at, h.kind, h.flags) (and_both _ _ h.within h.fewer) in
      right_close ss g (record {
        stands = rw h.kind (grant_names ss c.kind v parent.stands);
        ends = rw h.kind (grant_ends ss c.kind v parent.ends h.range h.within);
        flags = rw (h.kind, h.flags, grant_flags c.kind v) (le_trans (subset_le (asked_flags c.kind v) c.flags h.fewer) parent.flags);
        stamp = rw h.frost refl;
        descent = subst (λ (o : Origin). descends ss g o ≡ true) (sym h.origin) (of_fits ss (laid_out w) g n (record { parent = fit; chain = reaches_right ss c n at (right_close ss c parent) }));
      })

  -- ---- the three writes
  pub filled_place : {t : Slot} {v : Words} {p : Spot} {g : Capability} → Delegation st t v p g → Formed (still (commit st (Fill p g)))
  unfolding ◌&◌
  filled_place {t = t} {v = v} {p = p} {g = g} h =
      let he = h.fill.below in
      let fits = fits_filled ss (base w) p (Some g) he h.fill.blank in
      place_formed ss (base w) p (Some g) he w (λ k o. rw (h.origin, h.fill.blank) refl)
      (right_keep ss (base w) p (Some g) he g (λ n _ f. fits g n f) (grant_ok t v p g h)) (λ s i c _ _ n _ f. fits c n f)

  pub frozen_place : {t : Slot} {p : Spot} → st.clock < 2 ^ 32 → Freezing st t p → Formed (still (commit st (Freeze p)))
  frozen_place {p = p} l h =
      let n : ℕ = st.clock in
      let c : Capability = h.right in
      let he = h.stands.below in
      let x : Place = froze n (place_at st p.table p.entry) in
      let st' : State = put_place ss p x in
      let fits : (d : Capability) (q : ℕ) → Fits ss d q → Fits st' d q =
      fits_frozen ss st' (place_number p) (but_numbered ss (base w) p x he) n
      (new_numbered ss (base w) p x he ∙ ap (froze n) (sym (numbered ss (laid_out w) p he))) in
      place_formed ss (base w) p x he w (λ k o. rw h.stands.holds refl)
      (ap (right (right_ok st')) (ap (froze n) h.stands.holds)
      ∙ right_keep ss (base w) p x he (frozen_right c n) (λ q _ f. fits (frozen_right c n) q f) (frozen_ok ss c n l (held_right st w h.stands)))
      (λ s i d _ _ q _ f. fits d q f)

  pub blanked_place : {t : Slot} {p : Spot} → Removal st t p → Formed (still (commit st (Remove p)))
  unfolding ◌&◌ has_children
  blanked_place {p = p} h =
      place_formed ss (base w) p None h.stands.below w (λ k o. rw (h.stands.holds, h.child) refl) refl
      (λ s i c q _ r from f. childless_fits ss w p h.stands.below h.childless s i c q r from f)
