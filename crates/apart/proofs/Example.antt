-- Demand 3 at work: reader and receiver are such others for the keeper's range, a run of theirs does something, and the range is as it was.
use mathlib.Core.Bool.{false, true}
use mathlib.Core.Logic.{inl, inr, ◌⊎◌}
use mathlib.Core.Path.{refl, ◌≡◌}
use Prim.Native.Nat.{◌^◌, suc, zero, ℕ}
use native.Mathlib.Omega.{arith}
use lib.Dec.{ltb}
use borrow.Author.Tests.{ltb-true}
use Rattle.rules.specs.Cases.{four}
use Rattle.rules.specs.Opened.{opened}
use Rattle.rules.specs.Run.{call, step}
use Rattle.rules.specs.WellFormed.{wf}
use Rattle.state.specs.State.{Object, count_of, place_at}
use Rattle.words.proofs.Tests.{and_left, and_right}
use Rattle.words.specs.Fields.{slot}
use Rattle.words.specs.Tests.{◌&◌}
use Rattle.apart.specs.Demand3.{By, EachMade, Inside, Made, Same, Word32, itself, run}
use Rattle.apart.specs.Example.{Others, events, stations}
use Rattle.apart.specs.Names.{Words}
use Rattle.apart.specs.Reach.{Form, Premise, form_at, form_of}
use Rattle.apart.proofs.Closed.{Calm, closed_premise}
use Rattle.apart.proofs.Invariant.{Own}
use Rattle.apart.proofs.Isolated.{demand3}
use Rattle.apart.proofs.View.{in_slot}

pub wf_stations : wf stations ≡ true
unfolding opened stations
wf_stations = refl

-- the tables in reach: the reader's and the receiver's own
abbrev Tables : ℕ → Type 0
Tables t = (t ≡ 64) ⊎ (t ≡ 96)

reader_own : Own Tables (in_slot stations 68)
unfolding opened stations
reader_own = inl refl

receiver_own : Own Tables (in_slot stations 100)
unfolding opened stations
receiver_own = inr refl

owns : (p : ℕ) → Others p → Own Tables (in_slot stations p)
owns p (inl e) = rw e reader_own
owns p (inr e) = rw e receiver_own

-- table, memory, endpoint, directory and the receiver's endpoint
reader_calm : (e : ℕ) → Calm Tables 128 160 (place_at stations (slot 64) e)
unfolding opened stations
reader_calm zero = (inl refl, tt)
reader_calm (suc zero) = inl (omega arith)
reader_calm (suc (suc zero)) = tt
reader_calm (suc (suc (suc zero))) = tt
reader_calm (suc (suc (suc (suc zero)))) = tt
reader_calm (suc (suc (suc (suc (suc zero))))) = tt
reader_calm (suc (suc (suc (suc (suc (suc zero)))))) = tt
reader_calm (suc (suc (suc (suc (suc (suc (suc zero))))))) = tt
reader_calm (suc (suc (suc (suc (suc (suc (suc (suc e)))))))) = tt

-- table, memory, endpoint, and the keeper's endpoint: a right to an object of the range, and no root
receiver_calm : (e : ℕ) → Calm Tables 128 160 (place_at stations (slot 96) e)
unfolding opened stations
receiver_calm zero = (inr refl, tt)
receiver_calm (suc zero) = inl (omega arith)
receiver_calm (suc (suc zero)) = tt
receiver_calm (suc (suc (suc zero))) = tt
receiver_calm (suc (suc (suc (suc zero)))) = tt
receiver_calm (suc (suc (suc (suc (suc zero))))) = tt
receiver_calm (suc (suc (suc (suc (suc (suc zero)))))) = tt
receiver_calm (suc (suc (suc (suc (suc (suc (suc zero))))))) = tt
receiver_calm (suc (suc (suc (suc (suc (suc (suc (suc e)))))))) = tt

calm : (t e : ℕ) → Tables t → Calm Tables 128 160 (place_at stations (slot t) e)
calm t e (inl q) = rw q (reader_calm e)
calm t e (inr q) = rw q (receiver_calm e)

pub stations_apart : Premise stations Others 128 160
stations_apart = closed_premise stations Others Tables 128 160 owns calm

-- ---- a run: the calls are by the reader, by the process that it makes at slot 72, and by the receiver
pub words32 : (w : Words) → (ltb w.nc (2 ^ 32) & ltb w.p1 (2 ^ 32) & ltb w.p2 (2 ^ 32) & ltb w.p3 (2 ^ 32)) ≡ true → Word32 w
words32 w h =
    let r = and_right _ _ h in
    let q = and_right _ _ r in
    record { nc = ltb-true _ _ (and_left _ _ h); p1 = ltb-true _ _ (and_left _ _ r); p2 = ltb-true _ _ (and_left _ _ q); p3 = ltb-true _ _ (and_right _ _ q) }

pub by : By itself step Others stations events
unfolding opened stations
by = (inl refl, words32 _ refl, (inr new, words32 _ refl, (inl (inr new), words32 _ refl, (inl (inl (inl (inr refl))), words32 _ refl, tt))))
  where
    new : Made stations (step stations (call 68 (four 0x000C0000 0x00010005 0x00000003 0x20001200))) 72
        × (form_at (step stations (call 68 (four 0x000C0000 0x00010005 0x00000003 0x20001200))) 72 ≡ Form.process)
    new = (record { before = refl; after = omega arith }, refl)

-- what it leaves at a slot
abbrev left_at : ℕ → Object
left_at x = in_slot (run itself step stations events) x

-- the new process's endpoint stands, the one in the keeper's range was refused, and the keeper's own endpoint has the receiver's signal
pub built : form_of (left_at 80) ≡ Form.endpoint false
unfolding opened stations
built = refl

pub barred : form_of (left_at 140) ≡ Form.free
unfolding opened stations
barred = refl

pub signalled : count_of (left_at 133) ≡ 1
unfolding opened stations
signalled = refl

-- and by demand 3 the keeper's range is as it was, and each object made lies in the reader's or the receiver's memory
pub unharmed : Same 128 160 stations (run itself step stations events) × EachMade itself step (Inside stations Others) stations events
unharmed = demand3 stations Others 128 160 events stations_apart by
