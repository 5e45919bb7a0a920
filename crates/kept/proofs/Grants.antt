-- A right that is granted: its kind, flags and range are in order where its parent's are.
use mathlib.Core.Bool.{true}
use mathlib.Core.Path.{refl, ◌≡◌}
use Prim.Native.Nat.{◌%◌, ◌*◌, ◌+◌, ◌/◌, ◌<◌, ℕ, ◌≤◌}
use native.Mathlib.Omega.{arith}
use borrow.Author.Tests.{eq-eqb, le-leb, leb-true, lt-ltb, ltb-true}
use Rattle.rules.specs.Calls.{asked_kind}
use Rattle.rules.specs.WellFormed.{ends_ok, names}
use Rattle.state.specs.State.{State, positions_in}
use Rattle.words.proofs.Flags.{inside_facts}
use Rattle.words.proofs.Tests.{and_both, and_left, and_right}
use Rattle.words.specs.Grants.{unpack}
use Rattle.words.specs.Rights.{all_flags, inside, some_range}
use Rattle.words.specs.Sizes.{kernel_end, kernel_start}
use Rattle.kept.specs.Names.{Directory, Endpoint, Function, Kind, Memory, Process, Table, Words}

pub grant_names : (st : State) (k : Kind) (v : Words) → names st k ≡ true → names st (asked_kind k v) ≡ true
unfolding names
grant_names st (Table o) v h = h
grant_names st (Directory o a b) v h = h
grant_names st (Memory a b) v h = h
grant_names st (Process o) v h = h
grant_names st (Endpoint o) v h = h
grant_names st (Function a b) v h = h

pub grant_flags : (k : Kind) (v : Words) → all_flags (asked_kind k v) ≡ all_flags k
grant_flags (Table o) v = refl
grant_flags (Directory o a b) v = refl
grant_flags (Memory a b) v = refl
grant_flags (Process o) v = refl
grant_flags (Endpoint o) v = refl
grant_flags (Function a b) v = refl

-- a range that is not empty and lies inside one whose ends are in order
pub grant_ends : (st : State) (k : Kind) (v : Words) → ends_ok st k ≡ true → some_range (asked_kind k v) ≡ true → inside (asked_kind k v) k ≡ true → ends_ok st (asked_kind k v) ≡ true
unfolding ends_ok some_range unpack
grant_ends st (Table o) v h r i = refl
grant_ends st (Directory o a b) v h r i =
    let f = inside_facts (asked_kind (Directory o a b) v) (Directory o a b) i in
    let top : b < positions_in st o = ltb-true _ _ (and_right _ _ h) in
    let some : v.p3 / 256 % 4096 ≤ v.p3 / 1048576 = leb-true _ _ r in
    let high : v.p3 / 1048576 < positions_in st o = omega (arith, f.high) in
    let low : v.p3 / 256 % 4096 < positions_in st o = omega arith in
    and_both _ _ (lt-ltb _ _ low) (lt-ltb _ _ high)
grant_ends st (Memory a b) v h r i =
    let f = inside_facts (asked_kind (Memory a b) v) (Memory a b) i in
    let h₁ = and_right _ _ (and_right _ _ (and_right _ _ (and_right _ _ h))) in
    let l : ℕ = v.p3 % 65536 * 65536 + v.nc % 65536 / 64 * 64 in
    let u : ℕ = v.p3 / 65536 * 65536 + v.nc / 65536 / 64 * 64 in
    let from : kernel_start ≤ a.0 = leb-true _ _ (and_left _ _ h) in
    let to : b.0 ≤ kernel_end = leb-true _ _ (and_left _ _ h₁) in
    let some : l < u = ltb-true _ _ r in
    let low : a.0 ≤ l = f.low in
    let high : u ≤ b.0 = f.high in
    let l₁ : kernel_start ≤ l = omega arith in
    let l₂ : l < kernel_end = omega arith in
    let l₃ : l % 64 ≡ 0 = omega arith in
    let u₁ : kernel_start ≤ u = omega arith in
    let u₂ : u ≤ kernel_end = omega arith in
    let u₃ : u % 64 ≡ 0 = omega arith in
    and_both _ _ (le-leb _ _ l₁) (and_both _ _ (lt-ltb _ _ l₂) (and_both _ _ (eq-eqb _ _ l₃) (and_both _ _ (le-leb _ _ u₁) (and_both _ _ (le-leb _ _ u₂) (eq-eqb _ _ u₃)))))
grant_ends st (Process o) v h r i = refl
grant_ends st (Endpoint o) v h r i = refl
grant_ends st (Function a b) v h r i =
    let f = inside_facts (asked_kind (Function a b) v) (Function a b) i in
    let top : b < 65536 = ltb-true _ _ (and_right _ _ h) in
    let high : v.p3 / 65536 < 65536 = omega (arith, f.high) in
    let low : v.p3 % 65536 < 65536 = omega arith in
    and_both _ _ (lt-ltb _ _ low) (lt-ltb _ _ high)
