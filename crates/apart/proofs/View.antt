-- What each change does to the objects of a state, slot by slot: after this, no proof looks at the list of slots.
use mathlib.Core.Logic.{◌≢◌}
use mathlib.Core.Path.{ap, ◌∙◌, ◌≡◌}
use Prim.Native.Nat.{◌+◌, ◌-◌, ◌<◌, suc, ℕ, ◌≤◌}
use native.Mathlib.Decide.{dec_lt, ℕ_discrete}
use native.Mathlib.Omega.{arith}
use lib.ListN.{length, length-set}
use lib.Seq.{get_or-set_other, get_or-set_same}
use Rattle.state.proofs.Elsewhere.{raise_apart, raise_first, raise_length, raise_part, raze_apart, raze_free}
use Rattle.state.specs.State.{Object, State, body, free, obj_at, put, raise, raze, size_of}
use Rattle.words.specs.Fields.{slot}
use Rattle.apart.specs.Names.{Slot}

abbrev pub in_slot : State → ℕ → Object
in_slot st x = obj_at st (slot x)

abbrev pub Out : ℕ → ℕ → ℕ → Type 0
Out f n x = f ≤ x → x < f + n → ⊥

-- where a slot stands to n slots from f
pub data Side (f n x : ℕ) : Type 0 where
  first : x ≡ f → Side f n x
  later : f < x → x < f + n → Side f n x
  outside : Out f n x → Side f n x

pub side : (f n x : ℕ) → Side f n x
side f n x = go (ℕ_discrete x f) (dec_lt f x) (dec_lt x (f + n))
  where
    go : Dec (x ≡ f) → Dec (f < x) → Dec (x < f + n) → Side f n x
    go (yes e) d c = first e
    go (no h) (yes l) (yes m) = later l m
    go (no h) (yes l) (no m) = outside (λ p q. m q)
    go (no h) (no l) d = outside (λ p q. omega arith)

-- ---- one object replaced
pub record Put (st r : State) (x : ℕ) (o : Object) : Type 0 where
  pub here : in_slot r x ≡ o
  pub rest : (y : ℕ) → y ≢ x → in_slot r y ≡ in_slot st y
  pub size : length r.slots ≡ length st.slots

pub puts : (st : State) (s : Slot) (o : Object) → s.0 < length st.slots → Put st (put st s o) s.0 o
puts st s o h = record {
  here = get_or-set_same st.slots s.0 o free h;
  rest = λ y d. get_or-set_other st.slots s.0 y o free d;
  size = length-set st.slots s.0 o;
}

-- ---- an object made
pub record Raised (st r : State) (f n : ℕ) (o : Object) : Type 0 where
  pub head : in_slot r f ≡ o
  pub inner : (x : ℕ) → f < x → x < f + n → in_slot r x ≡ body (slot f)
  pub rest : (x : ℕ) → Out f n x → in_slot r x ≡ in_slot st x
  pub size : length r.slots ≡ length st.slots

-- ---- an object taken away
pub record Razed (st r : State) (f n : ℕ) : Type 0 where
  pub gone : (x : ℕ) → f ≤ x → x < f + n → in_slot r x ≡ free
  pub rest : (x : ℕ) → Out f n x → in_slot r x ≡ in_slot st x

pub raised : (st : State) (s : Slot) (o : Object) (n : ℕ) → size_of o ≡ n → 0 < n → s.0 + n ≤ length st.slots → Raised st (raise st s o) s.0 n o
raised st s o n e z h = record {
  head = raise_first st s o some fits;
  inner = λ x p q.
      let j : x ≡ s.0 + suc (x - s.0 - 1) = omega arith in
      ap (in_slot (raise st s o)) j ∙ raise_part st s o some fits (x - s.0 - 1) (omega arith);
  rest = λ x d. raise_apart st s o some fits x (λ j l q. d (omega arith) (omega arith));
  size = raise_length st s o some fits;
}
  where
    some : 1 ≤ size_of o
    some = omega arith

    fits : s.0 + size_of o ≤ length st.slots
    fits = omega arith

pub razed : (st : State) (s : Slot) (n : ℕ) → size_of (obj_at st s) ≡ n → s.0 + n ≤ length st.slots → Razed st (raze st s) s.0 n
razed st s n e h = record {
  gone = λ x p q. let j : x ≡ s.0 + (x - s.0) = omega arith in ap (in_slot (raze st s)) j ∙ raze_free st s fits (x - s.0) (omega arith);
  rest = λ x d. raze_apart st s fits x (λ j l q. d (omega arith) (omega arith));
}
  where
    fits : s.0 + size_of (obj_at st s) ≤ length st.slots
    fits = omega arith
