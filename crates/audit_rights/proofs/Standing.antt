-- What is asked of a right by itself, in the order in which the code asks it.
use mathlib.Core.Bool.{Bool, false, true}
use mathlib.Core.Path.{ap₂, refl, sym, ◌∙◌, ◌≡◌}
use Prim.Native.Nat.{◌<◌, ◌^◌, ℕ}
use native.Mathlib.Omega.{arith}
use lib.Dec.{eqb, leb, ltb}
use lib.ListN.{length}
use borrow.Author.Tests.{le-ltb, lt-ltb}
use Rattle.audit_objects.proofs.Checks.{endpoint_number, process_number, table_number}
use Rattle.rules.specs.WellFormed.{ends_ok, names, object_no, parent_fits, stamp_ok}
use Rattle.state.specs.Bytes.{tag_of}
use Rattle.state.specs.Read.{frost_from}
use Rattle.state.specs.State.{Object, State, body, directory, endpoint, free, obj_at, place_numbered, positions_in, positions_of, process, table}
use Rattle.words.proofs.Tests.{and_no}
use Rattle.words.specs.Rights.{all_flags}
use Rattle.words.specs.Tests.{◌&◌}
use Rattle.audit_rights.specs.ButChain.{bare, descends_but_chain, right_but_chain}
use Rattle.audit_rights.specs.Names.{None, Directory, Endpoint, Frost, Some, Kind, Origin, Place, Process, Slot, Table, Thawed}

pub and_true : (a : Bool) → (a & true) ≡ a
unfolding ◌&◌
and_true true = refl
and_true false = refl

and_assoc : (a b c : Bool) → ((a & b) & c) ≡ (a & b & c)
unfolding ◌&◌
and_assoc true b c = refl
and_assoc false b c = refl

-- ---- "names by its first slot an object of its kind", and the ends of its range
module _ (st : State) where
  pub stands_table : (o : Slot) → (names st (Table o) & ends_ok st (Table o)) ≡ eqb (tag_of (obj_at st o)) 2
  unfolding names ends_ok
  stands_table o = and_true _ ∙ table_number (obj_at st o)

  pub stands_process : (o : Slot) → (names st (Process o) & ends_ok st (Process o)) ≡ eqb (tag_of (obj_at st o)) 4
  unfolding names ends_ok
  stands_process o = and_true _ ∙ process_number (obj_at st o)

  pub stands_endpoint : (o : Slot) → (names st (Endpoint o) & ends_ok st (Endpoint o)) ≡ eqb (tag_of (obj_at st o)) 5
  unfolding names ends_ok
  stands_endpoint o = and_true _ ∙ endpoint_number (obj_at st o)

  -- what has a position is a directory
  pub stands_directory : (o : Slot) (l h : ℕ) → (names st (Directory o l h) & ends_ok st (Directory o l h)) ≡ (ltb l (positions_in st o) & ltb h (positions_in st o))
  unfolding names ends_ok ◌&◌
  stands_directory o l h = go (obj_at st o)
    where
      none : false ≡ (ltb l 0 & ltb h 0)
      none = sym (and_no (ltb l 0) (ltb h 0) (le-ltb l 0 (omega arith)))

      go : (x : Object) → (eqb (object_no x) 2 & ltb l (length (positions_of x)) & ltb h (length (positions_of x))) ≡ (ltb l (length (positions_of x)) & ltb h (length (positions_of x)))
      go free = none
      go (body f) = none
      go (table ps) = none
      go (directory g es) = refl
      go (process t d) = none
      go (endpoint c b) = none

-- ---- the stamp plays no part, and to the parent the origin plays none
pub fits_same : (k : Kind) (f : ℕ) (x : Frost) (r : Origin) (p : Place) → parent_fits (record { kind = k; flags = f; frost = x; origin = r }) p ≡ parent_fits (bare k f None) p
fits_same k f x r None = refl
fits_same k f x r (Some c) = refl

descends_same : (st : State) (k : Kind) (f : ℕ) (x : Frost) (r : Origin) (o : Origin)
    → descends_but_chain st (record { kind = k; flags = f; frost = x; origin = r }) o ≡ descends_but_chain st (bare k f r) o
unfolding descends_but_chain
descends_same st k f x r None = refl
descends_same st k f x r (Some p) = fits_same k f x r (place_numbered st p) ∙ sym (fits_same k f Thawed r (place_numbered st p))

stamp_passes : (m s : ℕ) → s < 2 ^ 32 → stamp_ok (frost_from m s) ≡ true
unfolding frost_from
stamp_passes m s h = go (eqb m 0) refl
  where
    go : (z : Bool) → eqb m 0 ≡ z → stamp_ok (frost_from m s) ≡ true
    go true e = rw e
    go false e = rw e (lt-ltb _ _ h)

module _ (st : State) (k : Kind) (f : ℕ) (r : Origin) where
  pub right_bare : (m s : ℕ) → s < 2 ^ 32 → right_but_chain st (record { kind = k; flags = f; frost = frost_from m s; origin = r }) ≡ right_but_chain st (bare k f r)
  unfolding right_but_chain
  right_bare m s h =
      ap₂ (λ (a b : Bool). names st k & ends_ok st k & leb f (all_flags k) & a & b) (stamp_passes m s h) (descends_same st k f (frost_from m s) r r)

  -- the parts that the code asks for one after the other
  pub right_parts : right_but_chain st (bare k f r) ≡ ((names st k & ends_ok st k) & leb f (all_flags k) & descends_but_chain st (bare k f r) r)
  unfolding right_but_chain ◌&◌
  right_parts = sym (and_assoc (names st k) (ends_ok st k) (leb f (all_flags k) & descends_but_chain st (bare k f r) r))
