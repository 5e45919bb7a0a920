-- How objects lie in a well-formed state: in kernel memory, and behind the first slot of one no other begins.
use mathlib.Core.Bool.{true}
use mathlib.Core.Path.{ap, ◌≡◌}
use Prim.Native.Nat.{◌+◌, ◌-◌, ◌<◌, suc, ℕ, ◌≤◌}
use native.Mathlib.Omega.{arith}
use lib.ListN.{length}
use Rattle.rules.proofs.Facts.{wf_laid}
use Rattle.rules.proofs.Named.{some_tag}
use Rattle.rules.specs.WellFormed.{object_no, wf}
use Rattle.state.proofs.Run.{object_fits, object_part}
use Rattle.state.specs.State.{Object, State, obj_at}
use Rattle.words.specs.Fields.{slot}
use Rattle.apart.specs.Names.{Slot}
use Rattle.apart.specs.Reach.{extent, extent_at, form_of}
use Rattle.apart.proofs.Objects.{extent_real, real_size}
use Rattle.apart.proofs.View.{in_slot}

module _ (st : State) (w : wf st ≡ true) where
  pub lies_inside : (o : Slot) → 0 < object_no (obj_at st o) → o.0 + extent_at st o.0 ≤ length st.slots
  lies_inside o h = rw (← real_size (obj_at st o) h, (wf_laid st w).room) (object_fits st (wf_laid st w) o (some_tag (obj_at st o) h))

  pub none_behind : (f x : ℕ) → f < x → x < f + extent_at st f → extent_at st x ≡ 0
  none_behind f x p q =
      let h : 0 < object_no (in_slot st f) = extent_real (in_slot st f) (omega arith) in
      let j : ℕ = x - f - 1 in
      let e : x ≡ f + suc j = omega arith in
      rw e (ap (λ (o : Object). extent (form_of o)) (object_part st (wf_laid st w) (slot f) (some_tag (in_slot st f) h) j (omega (arith, real_size (in_slot st f) h))))
