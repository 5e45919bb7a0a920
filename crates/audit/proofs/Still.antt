-- The clock plays no part in what is asked of the slots: each rule says the same of the state with its clock at 0.
use mathlib.Core.Bool.{Bool}
use mathlib.Core.Path.{refl, ◌≡◌}
use lib.Dec.{eqb}
use lib.ListN.{get_or, length}
use Rattle.rules.specs.WellFormed.{apart, descends, ends_ok, every_object, every_place, formed, names, object_ok, one_root, position_ok, right, right_ok, rooted, roots_of, runs, still, whole}
use Rattle.state.specs.State.{Object, State, body, directory, endpoint, free, process, table}
use Rattle.words.proofs.Tests.{all_same}
use Rattle.words.specs.Fields.{slot}
use Rattle.words.specs.Tests.{◌&◌}
use Rattle.audit.specs.Names.{Capability, Child, Directory, Empty, Endpoint, Function, Geometry, Kind, Memory, Origin, Page, Position, Process, None, Slot, Table, Some}

module _ (st : State) where
  names_still : (k : Kind) → names (still st) k ≡ names st k
  unfolding names
  names_still (Table o) = refl
  names_still (Directory o l h) = refl
  names_still (Memory l h) = refl
  names_still (Process o) = refl
  names_still (Endpoint o) = refl
  names_still (Function l h) = refl

  ends_still : (k : Kind) → ends_ok (still st) k ≡ ends_ok st k
  unfolding ends_ok
  ends_still (Table o) = refl
  ends_still (Directory o l h) = refl
  ends_still (Memory l h) = refl
  ends_still (Process o) = refl
  ends_still (Endpoint o) = refl
  ends_still (Function l h) = refl

  whole_still : (k : Kind) → whole (still st) k ≡ whole st k
  unfolding whole
  whole_still (Table o) = refl
  whole_still (Directory o l h) = refl
  whole_still (Memory l h) = refl
  whole_still (Process o) = refl
  whole_still (Endpoint o) = refl
  whole_still (Function l h) = refl

  descent_still : (c : Capability) (o : Origin) → descends (still st) c o ≡ descends st c o
  unfolding descends
  descent_still c None = rw (whole_still c.kind)
  descent_still c (Some p) = refl

  right_still : (c : Capability) → right_ok (still st) c ≡ right_ok st c
  unfolding right_ok
  right_still c = rw (names_still c.kind, ends_still c.kind, descent_still c c.origin)

  root_still : (s : Slot) (o : Object) → one_root (still st) s o ≡ one_root st s o
  unfolding one_root roots_of
  root_still s free = refl
  root_still s (body f) = refl
  root_still s (table ps) = refl
  root_still s (directory g es) = refl
  root_still s (process t d) = refl
  root_still s (endpoint c b) = refl

  position_still : (g : Geometry) (e : Position) → position_ok (still st) g e ≡ position_ok st g e
  unfolding position_ok
  position_still g Empty = refl
  position_still g (Page f x) = refl
  position_still g (Child o x) = refl

  object_still : (s : Slot) (o : Object) → object_ok (still st) s o ≡ object_ok st s o
  unfolding object_ok runs
  object_still s free = refl
  object_still s (body f) = refl
  object_still s (table ps) = refl
  object_still s (directory g es) = rw (all_same (length es) (λ i. position_ok (still st) g (get_or es i Empty)) (λ i. position_ok st g (get_or es i Empty)) (λ i. position_still g (get_or es i Empty)))
  object_still s (process t d) = refl
  object_still s (endpoint c b) = refl

  -- what is asked of the slots, with the three tests that look at the state
  abbrev shape : (Capability → Bool) → (Slot → Object → Bool) → (Slot → Object → Bool) → Bool
  shape rights roots objects =
      apart st & every_place st (right rights) & (every_object st roots & eqb (roots_of st 3 (slot 0)) 1 & eqb (roots_of st 6 (slot 0)) 1) & every_object st objects

  pub still_formed : formed (still st) ≡ formed st
  unfolding formed apart rooted roots_of every_place every_object
  still_formed = λ i. shape (λ c. right_still c i) (λ s o. root_still s o i) (λ s o. object_still s o i)
