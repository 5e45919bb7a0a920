-- An object taken away whose root is gone, and that no process and no directory names: all that is asked of a state but the count of roots.
use mathlib.Core.Bool.{true}
use mathlib.Core.Logic.{inl, inr, ◌≢◌, ◌⊎◌}
use mathlib.Core.Path.{ap, sym, ◌∙◌, ◌≡◌}
use Prim.Native.Nat.{◌<◌, suc, ℕ}
use native.Mathlib.Nat.{add-zero}
use native.Mathlib.Omega.{arith}
use lib.ListN.{get_or}
use borrow.Author.Tests.{eqb-true}
use Rattle.words.specs.Fields.{slot}
use Rattle.words.specs.Rights.{kind_no, object_of}
use Rattle.state.specs.Layout.{Laid}
use Rattle.state.specs.State.{Object, State, free, obj_at, places_of, position_at, positions_in, process, raze, size_of}
use Rattle.state.proofs.LaidAfter.{laid_raze}
use Rattle.rules.proofs.Named.{some_tag}
use Rattle.rules.specs.WellFormed.{names, object_no, object_ok, roots_of}
use Rattle.rules.proofs.Facts.{right_open}
use Rattle.kept.specs.Names.{None, Child, Directory, Endpoint, Function, Kind, Memory, Process, Slot, Table}
use Rattle.kept.proofs.Base.{Base}
use Rattle.kept.proofs.Stand.{Bare, Stand, Zone, apart, first, later, numbered_same, stand_raze, stand_roots, vacant_first, zone}
use Rattle.kept.proofs.Stay.{Fresh, Like, NeKind, base_stay, like_eq}
use Rattle.kept.proofs.Unnamed.{unnamed}

module _ (st : State) (w : Base st) (s : Slot) (i : ℕ) (n : Bare (obj_at st s) i) (rootless : roots_of st (suc i) s ≡ 0)
    (users : (k : ℕ) (t d : Slot) → k < 256 → obj_at st (slot k) ≡ process t d → (t.0 ≢ s.0) × (d.0 ≢ s.0))
    (hung : (k j : ℕ) (c : Slot) (f : ℕ) → k < 256 → j < positions_in st (slot k) → position_at st (slot k) j ≡ Child c f → c.0 ≢ s.0) where
  abbrev st' : State
  st' = raze st s

  abbrev Ne : Slot → Type 0
  Ne k = k.0 ≢ s.0

  razed : Stand st' st s (obj_at st s)
  razed = stand_raze st w.laid s (some_tag (obj_at st s) (omega (arith, n.number)))

  laid : Laid st'
  laid = laid_raze st w.laid s (some_tag (obj_at st s) (omega (arith, n.number)))

  -- what is another object stays
  stays : (k : Slot) → 0 < object_no (obj_at st k) → Ne k → obj_at st' k ≡ obj_at st k
  stays k h d = go (zone s.0 (size_of (obj_at st s)) k.0)
    where
      go : Zone s.0 (size_of (obj_at st s)) k.0 → obj_at st' k ≡ obj_at st k
      go (first e) = absurd (d e)
      go (later j l e) = absurd (let z : object_no (obj_at st k) ≡ 0 = ap (λ (m : ℕ). object_no (obj_at st (slot m))) e ∙ ap object_no (razed.part j l) in omega arith)
      go (apart f) = sym (razed.same k.0 f)

  like : (k : Slot) → 0 < object_no (obj_at st k) → Ne k → Like (obj_at st' k) (obj_at st k)
  like k h d = like_eq _ _ (stays k h d)

  -- a right names another object
  other_kind : (k : Kind) → names st k ≡ true → (kind_no k ≡ suc i → (object_of k).0 ≡ s.0 → ⊥) → NeKind Ne k
  unfolding names
  other_kind (Table a) h f = λ q. f (sym (eqb-true _ _ h) ∙ ap (λ (m : ℕ). object_no (obj_at st (slot m))) q ∙ n.number) q
  other_kind (Directory a l u) h f = λ q. f (sym (eqb-true _ _ h) ∙ ap (λ (m : ℕ). object_no (obj_at st (slot m))) q ∙ n.number) q
  other_kind (Memory l u) h f = tt
  other_kind (Process a) h f = λ q. f (sym (eqb-true _ _ h) ∙ ap (λ (m : ℕ). object_no (obj_at st (slot m))) q ∙ n.number) q
  other_kind (Endpoint a) h f = λ q. f (sym (eqb-true _ _ h) ∙ ap (λ (m : ℕ). object_no (obj_at st (slot m))) q ∙ n.number) q
  other_kind (Function l u) h f = tt

  gone_or_same : (k : ℕ) → Zone s.0 (size_of (obj_at st s)) k → (obj_at st' (slot k) ≡ free) ⊎ ((obj_at st' (slot k) ≡ obj_at st (slot k)) × (k ≢ s.0))
  gone_or_same k (first q) = inl (rw q (vacant_first st' st laid s (obj_at st s) i n razed))
  gone_or_same k (later j l q) = inl (rw q (razed.vacant (suc j) l))
  gone_or_same k (apart d) = inr (sym (razed.same k d), λ q. d 0 n.some (q ∙ sym (add-zero s.0)))

  -- what is there afterwards was there, and is another
  pub raze_left : (k : ℕ) → (obj_at st' (slot k) ≡ free) ⊎ ((obj_at st' (slot k) ≡ obj_at st (slot k)) × (k ≢ s.0))
  raze_left k = gone_or_same k (zone s.0 (size_of (obj_at st s)) k)

  pub raze_base : Base st'
  unfolding object_ok
  raze_base =
      base_stay st st' Ne like w laid (λ m. sym (numbered_same st' st laid s (obj_at st s) i n razed m)) (λ k. from k (raze_left k))
      (λ t e c q h. other_kind c.kind (right_open st c h).stands (λ a b. unnamed st w s (suc i) rootless t e c q a b))
      (λ k hk. record { named = λ t d q. users k t d hk q; hung = λ j c f l q. hung k j c f hk l q })
    where
      from : (k : ℕ) → (obj_at st' (slot k) ≡ free) ⊎ ((obj_at st' (slot k) ≡ obj_at st (slot k)) × (k ≢ s.0)) → (obj_at st' (slot k) ≡ obj_at st (slot k)) ⊎ Fresh st st' Ne like k
      from k (inl q) = inr (record { blank = λ e. ap (λ (y : Object). get_or (places_of y) e None) q; good = ap (object_ok st' (slot k)) q })
      from k (inr q) = inl q.0

  pub raze_roots : (k : ℕ) (q : Slot) → roots_of st' k q ≡ roots_of st k q
  raze_roots k q = sym (stand_roots st' st laid s (obj_at st s) i n razed k q)
