-- Behind the slots that are used every slot is free, and a test that free slots pass is passed by all.
use mathlib.Core.Bool.{Bool, false, true}
use mathlib.Core.List.{List}
use mathlib.Core.Path.{ap, refl, ◌∙◌, ◌≡◌}
use Prim.Native.Nat.{◌*◌, ◌+◌, ◌-◌, ◌<◌, ℕ, ◌≤◌}
use native.Mathlib.Omega.{arith}
use lib.Dec.{ltb}
use borrow.Author.Tests.{ltb-false, ltb-true}
use Rattle.state.proofs.Look.{object_known, tag_byte}
use Rattle.state.specs.Read.{object_from, read, word_at}
use Rattle.state.specs.State.{free, obj_at}
use Rattle.words.proofs.Tests.{all_at, all_of}
use Rattle.words.specs.Fields.{slot}
use Rattle.words.specs.Sizes.{memory_length, slot_count}
use Rattle.words.specs.Tests.{all_below}
use Rattle.audit_entries.specs.Vacant.{Used, Vacant}

module _ (b : List ℕ) (n : ℕ) (v : Vacant b n) where
  pub vacant_tag : (k : ℕ) → n ≤ k → k < slot_count → tag_byte b k ≡ 0
  unfolding word_at
  vacant_tag k h l = omega (arith, v.blank k h l)

  pub vacant_free : (k : ℕ) → n ≤ k → k < slot_count → obj_at (read b) (slot k) ≡ free
  unfolding object_from
  vacant_free k h l = object_known b (slot k) l 0 (vacant_tag k h l)

  pub vacant_all : (p : ℕ → Bool) → all_below n p ≡ true → ((k : ℕ) → n ≤ k → k < slot_count → p k ≡ true) → all_below slot_count p ≡ true
  vacant_all p e f = all_of slot_count p (λ k l. go k l (ltb k n) refl)
    where
      go : (k : ℕ) → k < slot_count → (z : Bool) → ltb k n ≡ z → p k ≡ true
      go k l true q = all_at n p e k (ltb-true k n q)
      go k l false q = f k (ltb-false k n q) l

-- the search ends at a note that is not zeros, or at none
pub used_at_lem : (b : List ℕ) (n : ℕ) → 0 < n → Vacant b n → (word_at b (16380 + 4 * n) ≡ 0 → ⊥) → Used b n
used_at_lem b n some v e = record { vacant = v; least = λ m w. go m w (ltb m n) refl }
  where
    go : (m : ℕ) → Vacant b m → (z : Bool) → ltb m n ≡ z → n ≤ m
    go m w true q =
        let l : m < n = ltb-true m n q in
        let last : 16380 + 4 * n ≡ memory_length + 4 * (n - 1) = omega arith in
        absurd (e (ap (word_at b) last ∙ w.blank (n - 1) (omega arith) (omega (arith, v.few))))
    go m w false q = ltb-false m n q

-- the least number is one number
pub used_same : (b : List ℕ) (m n : ℕ) → Used b m → Used b n → m ≡ n
used_same b m n u w = omega (arith, u.least n w.vacant, w.least m u.vacant)
