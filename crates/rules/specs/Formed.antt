-- Well formed as facts, a name each: what the test `wf` says where it passes. The laws both ways are `wf_open` and `wf_close` in proofs/Facts.antt.
use Rattle.std.specs.Prelude.{true, ◌≡◌, ◌<◌, ◌^◌, ℕ, ◌≤◌, length}
use Rattle.state.specs.Layout.{lay}
use Rattle.state.specs.State.{State, entries_in, obj_at, place_at}
use Rattle.words.specs.Fields.{slot}
use Rattle.words.specs.Rights.{all_flags}
use Rattle.words.specs.Sizes.{slot_count}
use Rattle.rules.specs.Names.{Capability}
use Rattle.rules.specs.WellFormed.{descends, ends_ok, names, object_ok, one_root, right, right_ok, roots_of, stamp_ok, still}

-- what is asked of a right
pub record RightFormed (st : State) (c : Capability) : Type 0 where
  pub stands : names st c.kind ≡ true
  pub ends : ends_ok st c.kind ≡ true
  pub flags : c.flags ≤ all_flags c.kind
  pub stamp : stamp_ok c.frost ≡ true
  pub descent : descends st c c.origin ≡ true

-- what is asked of the slots
pub record Formed (st : State) : Type 0 where
  pub room : length st.slots ≡ slot_count
  pub laid : lay 0 0 (slot 0) st.slots ≡ true
  pub rights : (s : ℕ) → s < slot_count → (e : ℕ) → e < entries_in st (slot s) → right (right_ok st) (place_at st (slot s) e) ≡ true
  pub roots : (s : ℕ) → s < slot_count → one_root st (slot s) (obj_at st (slot s)) ≡ true
  pub memory : roots_of st 3 (slot 0) ≡ 1
  pub function : roots_of st 6 (slot 0) ≡ 1
  pub objects : (s : ℕ) → s < slot_count → object_ok st (slot s) (obj_at st (slot s)) ≡ true

pub record Wf (st : State) : Type 0 where
  pub shape : Formed (still st)
  pub time : st.clock < 2 ^ 32
