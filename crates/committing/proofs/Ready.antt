-- A plan that passed in a well-formed state has shown what the writer of its action asks.
use mathlib.Core.Bool.{true}
use mathlib.Core.List.{List}
use mathlib.Core.Path.{◌≡◌}
use Prim.Native.Nat.{ℕ, ◌<◌, ◌^◌}
use native.Mathlib.Omega.{arith}
use Rattle.words.specs.Try.{Ok}
use Rattle.words.proofs.Flags.{subset_le}
use Rattle.state.specs.State.{State}
use Rattle.state.specs.Read.{read}
use Rattle.rules.specs.Buffer.{sound}
use Rattle.rules.specs.Calls.{plan}
use Rattle.rules.specs.Commit.{success}
use Rattle.rules.specs.Formed.{Formed}
use Rattle.rules.specs.WellFormed.{still, wf}
use Rattle.rules.proofs.Facts.{number_few, wf_open}
use Rattle.rules.proofs.Lift.{sound_open}
use Rattle.passed.specs.Passed.{Becomes, Passed, PassedCall}
use Rattle.passed.proofs.Walks.{passed}
use Rattle.writing.specs.Flags.{position_flags}
use Rattle.committing.specs.Names.{Action, Answer, ChangeDirectory, ChangeTable, Child, CreateDirectory, CreateEndpoint, CreateProcess, CreateTable, Delete, Empty, Fill, Freeze, Page, Position, Remove, SetCount, SetPosition, Slot, Words}
use Rattle.committing.specs.Ready.{Ready}
use Rattle.committing.proofs.Standing.{process_stands, endpoint_stands, doomed_stands, site_of, page_flags_lem}

module _ (st : State) (w : Formed (still st)) (t : Slot) where
  flags_few : (d : Slot) (x : Position) → Becomes st t d x → position_flags x < 256
  flags_few d Empty h = omega arith
  flags_few d (Page f x) h =
      omega (arith, subset_le x h.page.flags h.fewer, page_flags_lem st w h.span.object h.position h.page.frame h.page.flags h.below h.holds)
  flags_few d (Child o x) h = omega (arith, h.few)

  shown_ready : (v : Words) (a : Action) → Passed st t v a → Ready st a
  shown_ready v (CreateTable p s n) h = record { site = site_of st w t p s _ h.creation; some = h.some; most = h.most }
  shown_ready v (CreateDirectory p s g) h = record { site = site_of st w t p s _ h.creation; number = number_few g h.shape }
  shown_ready v (CreateProcess p s o d) h = site_of st w t p s 1 h.creation
  shown_ready v (CreateEndpoint p s) h = site_of st w t p s 1 h
  shown_ready v (Delete p o) h = record { entry = h.stands.below; stands = doomed_stands st w p o h.right h.stands h.doomed }
  shown_ready v (Fill p c) h = h.fill.below
  shown_ready v (Freeze p) h = h.stands.below
  shown_ready v (Remove p) h = h.stands.below
  shown_ready v (SetPosition d i x) h = (h.below, flags_few d x h.becomes)
  shown_ready v (ChangeTable p o) h = process_stands st w t p h.process
  shown_ready v (ChangeDirectory p d) h = process_stands st w t p h.process
  shown_ready v (SetCount e c n) h = (endpoint_stands st w t e h.by, h.few)
  shown_ready v (Answer n) h = h

pub ready : (st : State) (caller : ℕ) (v : Words) (a : Action) → wf st ≡ true → PassedCall st caller v a → Ready st a
ready st caller v a w h = shown_ready st (wf_open st w).shape h.table v a h.shown

-- on a sound buffer
pub ready_plan : (b : List ℕ) (caller : ℕ) (v : Words) (a : Action) → sound b ≡ true → plan (read b) caller v ≡ Ok a → Ready (read b) a
ready_plan b caller v a h p = ready (read b) caller v a (sound_open b h).formed (passed (read b) caller v a p)

-- what it answers is a signed word
pub answer_fits : (st : State) (a : Action) → Ready st a → success a < 2 ^ 31
answer_fits st (CreateTable p s n) h = omega arith
answer_fits st (CreateDirectory p s g) h = omega arith
answer_fits st (CreateProcess p s t d) h = omega arith
answer_fits st (CreateEndpoint p s) h = omega arith
answer_fits st (Delete p o) h = omega arith
answer_fits st (Fill p c) h = omega arith
answer_fits st (Freeze p) h = omega arith
answer_fits st (Remove p) h = omega arith
answer_fits st (SetPosition d i x) h = omega arith
answer_fits st (ChangeTable p t) h = omega arith
answer_fits st (ChangeDirectory p d) h = omega arith
answer_fits st (SetCount e c n) h = h.1
answer_fits st (Answer n) h = h
