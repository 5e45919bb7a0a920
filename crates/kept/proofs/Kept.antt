-- "any call on such a state leaves one": by the action of a call that passed. P3 is a word of 32 bits: a directory's start is kept as it stands there.
use mathlib.Core.Bool.{true}
use mathlib.Core.Path.{refl, ◌≡◌}
use Prim.Native.Nat.{◌<◌, ◌^◌, ℕ}
use Rattle.passed.proofs.Walks.{passed}
use Rattle.passed.specs.Passed.{Passed}
use Rattle.rules.proofs.Facts.{wf_close, wf_open}
use Rattle.rules.specs.Calls.{plan}
use Rattle.rules.specs.Commit.{after, commit}
use Rattle.rules.specs.Formed.{Wf}
use Rattle.rules.specs.WellFormed.{wf}
use Rattle.state.specs.State.{State}
use Rattle.words.specs.Try.{Try, Err, Ok}
use Rattle.kept.specs.Names.{Action, Answer, ChangeDirectory, ChangeTable, CreateDirectory, CreateEndpoint, CreateProcess, CreateTable, Delete, Fill, Freeze, Remove, SetCount, SetPosition, Slot, Words}
use Rattle.kept.proofs.Creations.{directory_made, endpoint_made, process_made, table_made}
use Rattle.kept.proofs.Deletions.{object_deleted}
use Rattle.kept.proofs.InPlace.{count_set, directory_changed, table_changed}
use Rattle.kept.proofs.Places.{blanked_place, filled_place, frozen_place}
use Rattle.kept.proofs.Positions.{position_set}

pub action_kept : (st : State) (v : Words) (t : Slot) (a : Action) → v.p3 < 2 ^ 32 → Wf st → Passed st t v a → Wf (commit st a)
action_kept st v t (CreateTable p s n) word w h = record { shape = table_made st w.shape h; time = w.time }
action_kept st v t (CreateDirectory p s g) word w h = record { shape = directory_made st w.shape word h; time = w.time }
action_kept st v t (CreateProcess p s o d) word w h = record { shape = process_made st w.shape h; time = w.time }
action_kept st v t (CreateEndpoint p s) word w h = record { shape = endpoint_made st w.shape h; time = w.time }
action_kept st v t (Delete p o) word w h = record { shape = object_deleted st w.shape h; time = w.time }
action_kept st v t (Fill p g) word w h = record { shape = filled_place st w.shape h; time = w.time }
action_kept st v t (Freeze p) word w h = record { shape = frozen_place st w.shape w.time h; time = w.time }
action_kept st v t (Remove p) word w h = record { shape = blanked_place st w.shape h; time = w.time }
action_kept st v t (SetPosition d i x) word w h = record { shape = position_set st w.shape h; time = w.time }
action_kept st v t (ChangeTable p o) word w h = record { shape = table_changed st w.shape h; time = w.time }
action_kept st v t (ChangeDirectory p d) word w h = record { shape = directory_changed st w.shape h; time = w.time }
action_kept st v t (SetCount e c n) word w h = record { shape = count_set st w.shape h; time = w.time }
action_kept st v t (Answer n) word w h = w

pub wf_kept : (st : State) (caller : ℕ) (v : Words) (a : Action) → v.p3 < 2 ^ 32 → wf st ≡ true → plan st caller v ≡ Ok a → wf (commit st a) ≡ true
wf_kept st caller v a word h p = let s = passed st caller v a p in wf_close (commit st a) (action_kept st v s.table a word (wf_open st h) s.shown)

-- whether it passes or not
pub wf_after : (st : State) (caller : ℕ) (v : Words) → v.p3 < 2 ^ 32 → wf st ≡ true → wf (after st (plan st caller v)) ≡ true
wf_after st caller v word h = go (plan st caller v) refl
  where
    go : (r : Try Action) → plan st caller v ≡ r → wf (after st r) ≡ true
    go (Err r) e = h
    go (Ok a) e = wf_kept st caller v a word h e
