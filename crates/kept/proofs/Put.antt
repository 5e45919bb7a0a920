-- An object replaced by one that looks alike; and where it holds the same places, what is left is well formed: so a position, a count and
-- what a process names are written.
use mathlib.Core.Bool.{true}
use mathlib.Core.List.{List}
use mathlib.Core.Logic.{◌≢◌}
use mathlib.Core.Path.{◌∙◌, ◌≡◌, ap, refl, subst, sym}
use Prim.Native.Nat.{◌<◌, suc, ℕ}
use native.Mathlib.Decide.{ℕ_discrete}
use native.Mathlib.Omega.{arith}
use lib.ListN.{get_or, length}
use lib.Seq.{get_or-set_other, get_or-set_same}
use Rattle.rules.proofs.Inside.{laid_out, stands_inside}
use Rattle.rules.proofs.Named.{some_tag}
use Rattle.rules.specs.Formed.{Formed}
use Rattle.rules.specs.WellFormed.{is_root_of, object_no, object_ok, one, right, right_ok, roots_of}
use Rattle.state.proofs.LaidAfter.{laid_put}
use Rattle.state.specs.Layout.{Laid}
use Rattle.state.specs.State.{Object, State, free, obj_at, place_at, place_numbered, places_of, put, spot_numbered}
use Rattle.words.proofs.Tests.{sum_same}
use Rattle.words.specs.Fields.{slot}
use Rattle.words.specs.Tests.{sum_below}
use Rattle.kept.specs.Names.{None, Some, Place, Slot, Spot}
use Rattle.kept.proofs.Descent.{fits_same}
use Rattle.kept.proofs.Roots.{formed_same}
use Rattle.kept.proofs.Stay.{Like, like_eq, object_alike, right_alike, spot_alike}

module _ (st : State) (w : Laid st) (d : Slot) (o : Object) (hd : d.0 < 256) (l : Like o (obj_at st d)) where
  pub put_here : obj_at (put st d o) d ≡ o
  put_here = get_or-set_same st.slots d.0 o free (omega (arith, w.room))

  pub put_there : (k : ℕ) → k ≢ d.0 → obj_at (put st d o) (slot k) ≡ obj_at st (slot k)
  put_there k n = get_or-set_other st.slots d.0 k o free n

  pub put_like : (k : ℕ) → Like (obj_at (put st d o) (slot k)) (obj_at st (slot k))
  put_like k = elim (ℕ_discrete k d.0) [
    | yes q ↦ subst (λ (i : ℕ). Like (obj_at (put st d o) (slot i)) (obj_at st (slot i))) (sym q) (subst (λ (x : Object). Like x (obj_at st d)) (sym put_here) l)
    | no n ↦ like_eq _ _ (put_there k n)
  ]

-- x stands at d, and o replaces it
module _ (st : State) (w : Formed st) (d : Slot) (x : Object) (is : obj_at st d ≡ x) (i : ℕ) (number : object_no x ≡ suc i) (o : Object) (alike : Like o x) (ps : places_of o ≡ places_of x) where
  abbrev st' : State
  st' = put st d o

  l : Like o (obj_at st d)
  l = subst (Like o) (sym is) alike

  hd : d.0 < 256
  hd = stands_inside st (laid_out w) d i (ap object_no is ∙ number)

  here : obj_at st' d ≡ o
  here = put_here st (laid_out w) d o hd l

  there : (k : ℕ) → k ≢ d.0 → obj_at st' (slot k) ≡ obj_at st (slot k)
  there = put_there st (laid_out w) d o hd l

  like : (k : ℕ) → Like (obj_at st' (slot k)) (obj_at st (slot k))
  like = put_like st (laid_out w) d o hd l

  laid : Laid st'
  laid = laid_put st (laid_out w) d o (λ z. omega (arith, some_tag o (omega (arith, alike.number ∙ number)))) (λ z. omega (arith, some_tag (obj_at st d) (omega (arith, ap object_no is ∙ number)))) l.size

  places_same : (k : ℕ) → places_of (obj_at st' (slot k)) ≡ places_of (obj_at st (slot k))
  places_same k = elim (ℕ_discrete k d.0) [
    | yes q ↦ subst (λ (i : ℕ). places_of (obj_at st' (slot i)) ≡ places_of (obj_at st (slot i))) (sym q) (ap places_of here ∙ ps ∙ sym (ap places_of is))
    | no n ↦ ap places_of (there k n)
  ]

  numbered_same : (n : ℕ) → place_numbered st' n ≡ place_numbered st n
  numbered_same n =
      ap (λ (p : Spot). place_at st' p.table p.entry) (spot_alike st st' like n)
      ∙ ap (λ (l : List Place). get_or l (spot_numbered st n).entry None) (places_same (spot_numbered st n).table.0)

  right_same : (p : Place) → right (right_ok st) p ≡ true → right (right_ok st') p ≡ true
  right_same None h = refl
  right_same (Some c) h = right_alike st st' like laid c (λ p _ f. fits_same st st' numbered_same c p f) h

  roots_same : (k : ℕ) (s : Slot) → roots_of st' k s ≡ roots_of st k s
  unfolding roots_of
  roots_same k s = sum_same 256 _ _ (λ x. ap (λ (l : List Place). sum_below (length l) (λ e. one (is_root_of k s (get_or l e None)))) (places_same x))

  pub put_formed : object_ok st d o ≡ true → Formed st'
  put_formed ok =
      formed_same st st' w
      (record {
        laid = laid;
        rights = λ s hs e he.
            ap (λ (l : List Place). right (right_ok st') (get_or l e None)) (places_same s)
            ∙ right_same (place_at st (slot s) e) (w.rights s hs e (subst (λ (l : List Place). e < length l) (places_same s) he));
        objects = λ s hs. object_alike st st' like (slot s) (obj_at st' (slot s)) (object s hs (ℕ_discrete s d.0));
      })
      (λ s. (like s).number) roots_same
    where
      object : (s : ℕ) → s < 256 → Dec (s ≡ d.0) → object_ok st (slot s) (obj_at st' (slot s)) ≡ true
      object s hs (yes q) = subst (λ (i : ℕ). object_ok st (slot i) (obj_at st' (slot i)) ≡ true) (sym q) (ap (object_ok st d) here ∙ ok)
      object s hs (no n) = ap (object_ok st (slot s)) (there s n) ∙ w.objects s hs
