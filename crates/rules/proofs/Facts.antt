-- Well formed, from the test to the facts and back.
use mathlib.Core.Bool.{true}
use mathlib.Core.Path.{◌≡◌}
use Prim.Native.Nat.{◌≤◌}
use borrow.Author.Tests.{eq-eqb, eqb-true, le-leb, leb-true, lt-ltb, ltb-true}
use Rattle.state.specs.Layout.{Laid}
use Rattle.state.specs.State.{State}
use Rattle.words.proofs.Tests.{all_at, all_of, and_both, and_left, and_right}
use Rattle.rules.specs.Formed.{Formed, RightFormed, Wf}
use Rattle.rules.specs.Names.{Capability, Geometry}
use Rattle.rules.specs.WellFormed.{apart, every_object, every_place, formed, geometric, right_ok, rooted, still, wf}

pub right_open : (st : State) (c : Capability) → right_ok st c ≡ true → RightFormed st c
unfolding right_ok
right_open st c h =
    let h₁ = and_right _ _ h in
    let h₂ = and_right _ _ h₁ in
    let h₃ = and_right _ _ h₂ in
    record {
      stands = and_left _ _ h;
      ends = and_left _ _ h₁;
      flags = leb-true _ _ (and_left _ _ h₂);
      stamp = and_left _ _ h₃;
      descent = and_right _ _ h₃;
    }

pub right_close : (st : State) (c : Capability) → RightFormed st c → right_ok st c ≡ true
unfolding right_ok
right_close st c r = and_both _ _ r.stands (and_both _ _ r.ends (and_both _ _ (le-leb _ _ r.flags) (and_both _ _ r.stamp r.descent)))

-- "number order 1..8"
pub number_few : (g : Geometry) → geometric g ≡ true → g.number ≤ 8
unfolding geometric
number_few g h = leb-true _ _ (and_left _ _ (and_right _ _ (and_right _ _ (and_right _ _ h))))

pub formed_open : (st : State) → formed st ≡ true → Formed st
unfolding formed apart rooted every_place every_object
formed_open st h =
    let a = and_left _ _ h in
    let h₁ = and_right _ _ h in
    let h₂ = and_right _ _ h₁ in
    let r = and_left _ _ h₂ in
    let r₁ = and_right _ _ r in
    record {
      room = eqb-true _ _ (and_left _ _ a);
      laid = and_right _ _ a;
      rights = λ s hs. all_at _ _ (all_at 256 _ (and_left _ _ h₁) s hs);
      roots = all_at 256 _ (and_left _ _ r);
      memory = eqb-true _ _ (and_left _ _ r₁);
      function = eqb-true _ _ (and_right _ _ r₁);
      objects = all_at 256 _ (and_right _ _ h₂);
    }

pub formed_close : (st : State) → Formed st → formed st ≡ true
unfolding formed apart rooted every_place every_object
formed_close st w =
    and_both _ _ (and_both _ _ (eq-eqb _ _ w.room) w.laid)
    (and_both _ _ (all_of 256 _ (λ s hs. all_of _ _ (w.rights s hs)))
    (and_both _ _ (and_both _ _ (all_of 256 _ w.roots) (and_both _ _ (eq-eqb _ _ w.memory) (eq-eqb _ _ w.function)))
    (all_of 256 _ w.objects)))

pub wf_open : (st : State) → wf st ≡ true → Wf st
unfolding wf
wf_open st h = record { shape = formed_open (still st) (and_left _ _ h); time = ltb-true _ _ (and_right _ _ h) }

pub wf_close : (st : State) → Wf st → wf st ≡ true
unfolding wf
wf_close st w = and_both _ _ (formed_close (still st) w.shape) (lt-ltb _ _ w.time)

pub wf_laid : (st : State) → wf st ≡ true → Laid st
wf_laid st h = let f = (wf_open st h).shape in record { room = f.room; laid = f.laid }
