-- The list as its loop makes it: none at first, a slot that is none, a slot that is one, and the free slots at the end.
use mathlib.Core.Bool.{Bool, true}
use mathlib.Core.List.{List}
use mathlib.Core.Path.{ap, ap₂, refl, ◌∙◌, ◌≡◌}
use Prim.Native.Nat.{◌+◌, ◌-◌, ◌<◌, suc, ℕ, ◌≤◌}
use native.Mathlib.Nat.{le_step, lt-suc_self}
use native.Mathlib.Omega.{arith}
use lib.ListN.{get_or, length, length-set, set}
use lib.Seq.{get_or-set_other, get_or-set_same}
use Rattle.state.proofs.Look.{object_cases, object_read}
use Rattle.state.specs.Read.{read, slot_from}
use Rattle.state.specs.State.{Object, body, free, obj_at}
use Rattle.words.proofs.Tests.{all_at, all_of, iff}
use Rattle.words.specs.Fields.{slot}
use Rattle.words.specs.Sizes.{slot_count}
use Rattle.words.specs.Tests.{all_below, sum_below}
use Rattle.audit_entries.specs.Heads.{Heads, NoHead}
use Rattle.audit_entries.specs.Names.{Slot}
use Rattle.audit_entries.specs.Vacant.{Vacant}
use Rattle.audit_entries.proofs.Bounded.{all_agree, all_both, all_passed, sum_agree, sum_end}
use Rattle.audit_entries.proofs.Vacant.{vacant_all, vacant_tag}

-- ---- the list
pub heads_none : (b h : List ℕ) → length h ≡ slot_count → Heads b h 0 0
unfolding all_below sum_below
heads_none b h long = record { long = long; few = omega arith; all = λ p c. refl; sum = λ f c. refl }

pub heads_past : (b h : List ℕ) (m k : ℕ) → Heads b h m k → NoHead b k → Heads b h m (suc k)
unfolding sum_below
heads_past b h m k w t = record {
  long = w.long;
  few = omega (arith, w.few);
  all = λ p c. w.all p (λ j l. c j (le_step l)) ∙ all_passed k p (c k (lt-suc_self k) t);
  sum = λ f c. omega (arith, w.sum f (λ j l. c j (le_step l)), c k (lt-suc_self k) t);
}

pub heads_more : (b h : List ℕ) (m k : ℕ) → k < slot_count → Heads b h m k → Heads b (set h m k) (suc m) (suc k)
unfolding sum_below
heads_more b h m k in_it w = record {
  long = length-set h m k ∙ w.long;
  few = omega (arith, w.few);
  all = λ p c. all_both m k (λ i. p (get_or (set h m k) i 0)) p (all_agree m _ _ (λ i l. ap p (other i l)) ∙ w.all p (λ j l. c j (le_step l))) (ap p same);
  sum = λ f c. ap₂ (λ (x y : ℕ). x + y) (sum_agree m _ _ (λ i l. ap f (other i l)) ∙ w.sum f (λ j l. c j (le_step l))) (ap f same);
}
  where
    same : get_or (set h m k) m 0 ≡ k
    same = get_or-set_same h m k 0 (omega (arith, w.long, w.few))

    other : (i : ℕ) → i < m → get_or (set h m k) i 0 ≡ get_or h i 0
    other i l = get_or-set_other h m i k 0 (λ q. omega arith)

pub heads_end : (b h : List ℕ) (m n : ℕ) → Vacant b n → Heads b h m n → Heads b h m slot_count
heads_end b h m n v w = record {
  long = w.long;
  few = omega (arith, w.few, v.few);
  all = λ p c. w.all p (λ j l. c j (omega (arith, v.few)))
      ∙ iff _ _ (λ e. vacant_all b n v p e (λ k g l. c k l (low k g l))) (λ e. all_of n p (λ k l. all_at slot_count p e k (omega (arith, v.few))));
  sum = λ f c. w.sum f (λ j l. c j (omega (arith, v.few)))
      ∙ sum_end (slot_count - n) n f (λ x g l. c x (omega (arith, v.few)) (low x g (omega (arith, v.few)))) ∙ ap (λ (i : ℕ). sum_below i f) whole;
}
  where
    low : (k : ℕ) → n ≤ k → k < slot_count → NoHead b k
    low k g l = omega (arith, vacant_tag b n v k g l)

    whole : n + (slot_count - n) ≡ slot_count
    whole = omega (arith, v.few)

-- ---- what stands in a slot that is not listed
pub no_head : (b : List ℕ) (k : ℕ) → k < slot_count → NoHead b k → (P : Object → Type 0) → P free → ((f : Slot) → P (body f)) → P (obj_at (read b) (slot k))
unfolding slot_from
no_head b k l t P x y =
    rw (object_read b (slot k) l)
    (object_cases P _ _ _ (λ e. y _) (λ e. absurd (omega arith)) (λ e. absurd (omega arith)) (λ e. absurd (omega arith)) (λ e. absurd (omega arith)) (λ d1 d2 d3 d4 d5. x))

-- a test that free slots and later slots pass is asked of the listed ones
pub heads_objects : (b h : List ℕ) (n : ℕ) → Heads b h n slot_count → (p : Slot → Object → Bool) → ((k : Slot) → p k free ≡ true) → ((k f : Slot) → p k (body f) ≡ true)
    → all_below n (λ i. p (slot (get_or h i 0)) (obj_at (read b) (slot (get_or h i 0)))) ≡ all_below slot_count (λ s. p (slot s) (obj_at (read b) (slot s)))
heads_objects b h n w p x y = w.all (λ s. p (slot s) (obj_at (read b) (slot s))) (λ j l t. no_head b j l t (λ o. p (slot j) o ≡ true) (x (slot j)) (y (slot j)))
