-- "exactly one root": the counts of roots by the number of an object, and what a right that stands says of them.
use mathlib.Core.Bool.{Bool, false, true}
use mathlib.Core.Logic.{◌≢◌}
use mathlib.Core.Path.{ap, refl, subst, sym, ◌∙◌, ◌≡◌}
use Prim.Native.Nat.{◌<◌, suc, zero, ℕ}
use native.Mathlib.Omega.{arith}
use lib.Dec.{eqb}
use borrow.Author.Tests.{eq-eqb, eqb-true}
use Rattle.rules.proofs.Facts.{right_open}
use Rattle.rules.specs.Formed.{Formed}
use Rattle.rules.specs.WellFormed.{is_root_of, names, object_no, one, one_root, right, right_ok, roots_of}
use Rattle.state.specs.State.{Object, State, body, directory, endpoint, free, obj_at, place_at, process, table}
use Rattle.words.proofs.Tests.{and_both, and_left, and_right, sum_zero}
use Rattle.words.specs.Fields.{slot}
use Rattle.words.specs.Rights.{is_root, kind_no, object_of}
use Rattle.kept.specs.Names.{None, Capability, Directory, Endpoint, Function, Some, Kind, Memory, Place, Process, Slot, Table}
use Rattle.kept.proofs.Base.{Base}

-- whether an object has its one root, by its number
abbrev pub rooted_no : State → Slot → ℕ → Bool
rooted_no st s zero = true
rooted_no st s (suc n) = eqb (roots_of st (suc n) s) 1

one_root_no : (st : State) (s : Slot) (o : Object) → one_root st s o ≡ rooted_no st s (object_no o)
unfolding one_root
one_root_no st s free = refl
one_root_no st s (body h) = refl
one_root_no st s (table ps) = refl
one_root_no st s (directory g es) = refl
one_root_no st s (process t d) = refl
one_root_no st s (endpoint c b) = refl

pub rooted_at : (st : State) → Formed st → (s : ℕ) → s < 256 → rooted_no st (slot s) (object_no (obj_at st (slot s))) ≡ true
rooted_at st w s hs = sym (one_root_no st (slot s) (obj_at st (slot s))) ∙ w.roots s hs

pub rooted_same : (st st' : State) (s : Slot) (n : ℕ) → ((k : ℕ) → roots_of st' k s ≡ roots_of st k s) → rooted_no st' s n ≡ rooted_no st s n
rooted_same st st' s zero f = refl
rooted_same st st' s (suc n) f = ap (λ (m : ℕ). eqb m 1) (f (suc n))

-- all that is asked of the slots, from the rest and the counts
pub formed_of : (st : State) → Base st → ((s : ℕ) → s < 256 → rooted_no st (slot s) (object_no (obj_at st (slot s))) ≡ true) → roots_of st 3 (slot 0) ≡ 1 → roots_of st 6 (slot 0) ≡ 1 → Formed st
formed_of st b roots memory function =
    record { room = b.laid.room; laid = b.laid.laid; rights = b.rights; roots = λ s hs. one_root_no st (slot s) (obj_at st (slot s)) ∙ roots s hs; memory = memory; function = function; objects = b.objects }

-- where the objects look alike and the counts are the same
pub formed_same : (st st' : State) → Formed st → Base st' → ((s : ℕ) → object_no (obj_at st' (slot s)) ≡ object_no (obj_at st (slot s)))
    → ((k : ℕ) (q : Slot) → roots_of st' k q ≡ roots_of st k q) → Formed st'
formed_same st st' w b number roots =
    formed_of st' b
    (λ s hs. ap (rooted_no st' (slot s)) (number s) ∙ rooted_same st st' (slot s) (object_no (obj_at st (slot s))) (λ k. roots k (slot s)) ∙ rooted_at st w s hs)
    (roots 3 (slot 0) ∙ w.memory)
    (roots 6 (slot 0) ∙ w.function)

-- ---- a kind that names the object at s, of number i + 1
pub record Of (k : Kind) (s : Slot) (i : ℕ) : Type 0 where
  pub number : kind_no k ≡ suc i
  pub object : (object_of k).0 ≡ s.0
  pub no_memory : suc i ≢ 3
  pub no_function : suc i ≢ 6

pub of_table : (s : Slot) → Of (Table s) s 0
of_table s = record { number = refl; object = refl; no_memory = λ z. omega arith; no_function = λ z. omega arith }

pub of_directory : (s : Slot) (l h : ℕ) → Of (Directory s l h) s 1
of_directory s l h = record { number = refl; object = refl; no_memory = λ z. omega arith; no_function = λ z. omega arith }

pub of_process : (s : Slot) → Of (Process s) s 3
of_process s = record { number = refl; object = refl; no_memory = λ z. omega arith; no_function = λ z. omega arith }

pub of_endpoint : (s : Slot) → Of (Endpoint s) s 4
of_endpoint s = record { number = refl; object = refl; no_memory = λ z. omega arith; no_function = λ z. omega arith }

-- "names by its first slot an object of its kind"
names_no : (st : State) (k : Kind) (n : ℕ) → names st k ≡ true → kind_no k ≡ n → n ≢ 3 → n ≢ 6 → object_no (obj_at st (object_of k)) ≡ n
unfolding names
names_no st (Table o) n h e a b = eqb-true _ _ h ∙ e
names_no st (Directory o l u) n h e a b = eqb-true _ _ h ∙ e
names_no st (Memory l u) n h e a b = absurd (a (sym e))
names_no st (Process o) n h e a b = eqb-true _ _ h ∙ e
names_no st (Endpoint o) n h e a b = eqb-true _ _ h ∙ e
names_no st (Function l u) n h e a b = absurd (b (sym e))

-- ---- a right as a root
record RootIs (n : ℕ) (q : Slot) (c : Capability) : Type 0 where
  number : kind_no c.kind ≡ n
  object : (object_of c.kind).0 ≡ q.0

root_is : (n : ℕ) (q : Slot) (c : Capability) → is_root_of n q (Some c) ≡ true → RootIs n q c
root_is n q c h = record { number = eqb-true _ _ (and_left _ _ (and_right _ _ h)); object = eqb-true _ _ (and_right _ _ (and_right _ _ h)) }

module _ (c : Capability) (s : Slot) (i : ℕ) (o : Of c.kind s i) where
  pub root_here : is_root c.origin ≡ true → is_root_of (suc i) s (Some c) ≡ true
  root_here r = and_both _ _ r (and_both _ _ (eq-eqb _ _ o.number) (eq-eqb _ _ o.object))

  -- it is a root of no other kind or object
  pub root_other : (n : ℕ) (q : Slot) → (suc i ≡ n → q.0 ≡ s.0 → ⊥) → is_root_of n q (Some c) ≡ false
  root_other n q d = go (is_root_of n q (Some c)) refl
    where
      go : (b : Bool) → is_root_of n q (Some c) ≡ b → is_root_of n q (Some c) ≡ false
      go false h = h
      go true h = absurd (let r = root_is n q c h in d (sym o.number ∙ r.number) (sym r.object ∙ o.object))

-- where no object of the number stands there is no root
no_root : (st : State) (q : Slot) (n : ℕ) → n ≢ 3 → n ≢ 6 → n ≢ object_no (obj_at st q) → (p : Place) → right (right_ok st) p ≡ true → is_root_of n q p ≡ false
no_root st q n a b d None h = refl
no_root st q n a b d (Some c) h = go (is_root_of n q (Some c)) refl
  where
    go : (x : Bool) → is_root_of n q (Some c) ≡ x → is_root_of n q (Some c) ≡ false
    go false e = e
    go true e =
        let r = root_is n q c e in
        let z : object_no (obj_at st (object_of c.kind)) ≡ n = names_no st c.kind n (right_open st c h).stands r.number a b in
        absurd (d (sym (subst (λ (i : ℕ). object_no (obj_at st (slot i)) ≡ n) r.object z)))

pub no_roots : (st : State) → Base st → (q : Slot) (n : ℕ) → n ≢ 3 → n ≢ 6 → n ≢ object_no (obj_at st q) → roots_of st n q ≡ 0
unfolding roots_of
no_roots st w q n a b d = sum_zero 256 _ (λ s hs. sum_zero _ _ (λ e he. ap one (no_root st q n a b d (place_at st (slot s) e) (w.rights s hs e he))))
