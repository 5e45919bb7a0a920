-- What the rights of a passed plan show on a well-formed state: the object of a right that was found stands, a memory lies in kernel memory, and
-- so do the slots that a creation takes of it.
use mathlib.Core.Bool.{true}
use mathlib.Core.Path.{ap, subst, sym, ◌∙◌, ◌≡◌}
use Prim.Native.Nat.{◌+◌, ◌<◌, ℕ, ◌≤◌}
use native.Mathlib.Omega.{arith}
use borrow.Author.Tests.{eqb-true, leb-true}
use Rattle.rules.proofs.Facts.{right_open, wf_open}
use Rattle.rules.proofs.Inside.{entries_in_lem, laid_out}
use Rattle.rules.specs.Addresses.{slot_of}
use Rattle.rules.specs.Formed.{Formed, RightFormed}
use Rattle.rules.specs.Numbers.{memory_arg}
use Rattle.rules.specs.Places.{spot}
use Rattle.rules.specs.WellFormed.{ends_ok, names, object_no, right, right_ok, still, wf}
use Rattle.state.specs.State.{State, obj_at}
use Rattle.words.proofs.Tests.{and_left, and_right}
use Rattle.words.specs.Try.{Try, Ok}
use Rattle.words.specs.Sizes.{kernel_end, kernel_start, slot_count}
use Rattle.passed.specs.Found.{By, Plot, Stands, stretched}
use Rattle.passed.specs.Names.{Capability, Directory, Endpoint, Function, Kind, Memory, Process, Slot, Spot, Stretch, Table}
use Rattle.passed.proofs.Arguments.{by_memory}

-- what a right of the kind k shows
abbrev pub Standing : State → Kind → Type 0
Standing st (Table o) = object_no (obj_at st o) ≡ 1
Standing st (Directory o l h) = object_no (obj_at st o) ≡ 2
Standing st (Memory l h) = (kernel_start ≤ l.0) × (h.0 ≤ kernel_end)
Standing st (Process o) = object_no (obj_at st o) ≡ 4
Standing st (Endpoint o) = object_no (obj_at st o) ≡ 5
Standing st (Function l h) = Unit {0}

module _ (st : State) (w : Formed (still st)) where
  -- a right in a place is well formed
  pub held_right : {p : Spot} {c : Capability} → Stands st p c → RightFormed (still st) c
  held_right {p} {c} h =
      let below : p.table.0 < slot_count = entries_in_lem (still st) (laid_out w) p.table p.entry h.below in
      right_open (still st) c (sym (ap (right (right_ok (still st))) h.holds) ∙ w.rights p.table.0 below p.entry h.below)

  standing : (k : Kind) → names (still st) k ≡ true → ends_ok (still st) k ≡ true → Standing st k
  unfolding names ends_ok
  standing (Table o) n e = eqb-true _ _ n
  standing (Directory o l h) n e = eqb-true _ _ n
  standing (Memory l h) n e = (leb-true _ _ (and_left _ _ e), leb-true _ _ (and_left _ _ (and_right _ _ (and_right _ _ (and_right _ _ (and_right _ _ e))))))
  standing (Process o) n e = eqb-true _ _ n
  standing (Endpoint o) n e = eqb-true _ _ n
  standing (Function l h) n e = tt

  -- "each right names by its first slot an object of its kind that stands there"
  pub stands_held : {p : Spot} {c : Capability} → Stands st p c → Standing st c.kind
  stands_held {c = c} h = let r = held_right h in standing c.kind r.stands r.ends

  pub stands_found : {t : Slot} {k : Kind} → By st t k → Standing st k
  stands_found b =
      let h : Stands st (spot b.found.at b.found.entry) b.right = record { below = b.found.below; holds = b.found.holds } in
      subst (Standing st) b.kind (stands_held h)

  -- "wholly in the memory right": the slots are among the 256
  pub plot_fits : {t : Slot} {m : Stretch} {s : Slot} {n : ℕ} → By st t (stretched m) → Plot st m s n → s.0 + n ≤ slot_count
  plot_fits {s = s} b p =
      let r = stands_found b in
      let is : (slot_of p.address).0 ≡ s.0 = ap (λ (x : Slot). x.0) p.is in
      omega (arith, r.0, r.1)

-- what a creation asks of its memory before its address is judged
pub memory_found : (st : State) (t : Slot) (v f : ℕ) {a : Try Stretch} {m : Stretch} → wf st ≡ true → a ≡ memory_arg st t v f → a ≡ Ok m → (kernel_start ≤ m.low.0) × (m.high.0 ≤ kernel_end)
memory_found st t v f {m = m} w told found = stands_found st (wf_open st w).shape ((by_memory st t v f).of m (sym told ∙ found))
