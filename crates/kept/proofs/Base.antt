-- Well formed but for the count of roots: what holds halfway through a creation or a deletion, when an object stands without its root.
use mathlib.Core.Bool.{true}
use mathlib.Core.Path.{◌≡◌}
use Prim.Native.Nat.{◌<◌, ℕ}
use Rattle.words.specs.Fields.{slot}
use Rattle.words.specs.Sizes.{slot_count}
use Rattle.state.specs.Layout.{Laid}
use Rattle.state.specs.State.{State, entries_in, obj_at, place_at}
use Rattle.rules.proofs.Inside.{laid_out}
use Rattle.rules.specs.Formed.{Formed}
use Rattle.rules.specs.WellFormed.{object_ok, right, right_ok}

pub record Base (st : State) : Type 0 where
  pub laid : Laid st
  pub rights : (s : ℕ) → s < slot_count → (e : ℕ) → e < entries_in st (slot s) → right (right_ok st) (place_at st (slot s) e) ≡ true
  pub objects : (s : ℕ) → s < slot_count → object_ok st (slot s) (obj_at st (slot s)) ≡ true

abbrev pub base : {st : State} → Formed st → Base st
base w = record { laid = laid_out w; rights = w.rights; objects = w.objects }
