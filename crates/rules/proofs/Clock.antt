-- The age of a frozen mark: what a wrapping subtraction gives, 0 when frozen, and one more at each tick. A tick keeps a state well formed.
use mathlib.Core.Bool.{true}
use mathlib.Core.Path.{refl, sym, ◌≡◌}
use Prim.Native.Nat.{◌%◌, ◌+◌, ◌-◌, ◌<◌, ◌^◌, ℕ}
use native.Mathlib.Omega.{arith}
use Rattle.state.specs.State.{State}
use Rattle.rules.specs.Commit.{ticked}
use Rattle.rules.specs.Names.{Frozen}
use Rattle.rules.specs.Places.{age}
use Rattle.rules.specs.WellFormed.{wf}
use Rattle.rules.proofs.Facts.{wf_close, wf_open}

pub age_wrapping : (st : State) (s r : ℕ) → s < 2 ^ 32 → r < 2 ^ 32 → (r + s) % 2 ^ 32 ≡ st.clock → r ≡ age st (Frozen s)
unfolding age
age_wrapping st s r hs hr h = omega arith

pub age_new : (st : State) → st.clock < 2 ^ 32 → age st (Frozen st.clock) ≡ 0
unfolding age
age_new st h = omega arith

-- the age is the number that makes the stamp the clock again
back : (c s a : ℕ) → c < 2 ^ 32 → s < 2 ^ 32 → a ≡ (c + 2 ^ 32 - s) % 2 ^ 32 → (a + s) % 2 ^ 32 ≡ c
back c s a hc hs h = omega arith

on : (c s a : ℕ) → a < 2 ^ 32 → s < 2 ^ 32 → (a + s) % 2 ^ 32 ≡ c → ((a + 1) % 2 ^ 32 + s) % 2 ^ 32 ≡ (c + 1) % 2 ^ 32
on c s a ha hs h = omega arith

pub age_tick : (st : State) (s : ℕ) → st.clock < 2 ^ 32 → s < 2 ^ 32 → age (ticked st) (Frozen s) ≡ (age st (Frozen s) + 1) % 2 ^ 32
unfolding age ticked
age_tick st s h hs =
    let a : ℕ = (st.clock + 2 ^ 32 - s) % 2 ^ 32 in
    let l : a < 2 ^ 32 = omega arith in
    sym (age_wrapping (ticked st) s ((a + 1) % 2 ^ 32) hs (omega arith) (on st.clock s a l hs (back st.clock s a h hs refl)))

pub wf_tick : (st : State) → wf st ≡ true → wf (ticked st) ≡ true
unfolding ticked
wf_tick st h = wf_close (ticked st) (record { shape = (wf_open st h).shape; time = omega arith })
