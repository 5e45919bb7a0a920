-- Laws of flags and ranges: a subset of flags is an order, and a range inside another is four facts.
use mathlib.Core.Path.{◌≡◌, sym, ap, ◌∙◌, subst}
use mathlib.Core.Bool.{true}
use Prim.Native.Nat.{ℕ, ◌+◌, ◌*◌, ◌/◌, ◌%◌, ◌<◌, ◌≤◌, min}
use native.Mathlib.Omega.{arith}
use lib.Dec.{eqb, leb}
use lib.Bits.{bit_and, and_step, and_self, and_zero_l, and_le_r}
use lib.Arith.{bin_ind, digits_div, digits_mod}
use borrow.Author.Tests.{eqb-true, eq-eqb, leb-true}
use Rattle.words.specs.Names.{Kind}
use Rattle.words.specs.Tests.{◌&◌}
use Rattle.words.specs.Rights.{kind_no, object_of, low_of, high_of, subset, inside}
use Rattle.words.proofs.Tests.{and_left, and_right}

and_assoc : (a b c : ℕ) → bit_and (bit_and a b) c ≡ bit_and a (bit_and b c)
and_assoc = bin_ind P
    (λ b c. ap (λ (x : ℕ). bit_and x c) (and_zero_l b) ∙ and_zero_l c ∙ sym (and_zero_l (bit_and b c)))
    (λ a ih b c.
    let l : min (a % 2) (b % 2) < 2 = omega arith in
    let r : min (b % 2) (c % 2) < 2 = omega arith in
    let m : min (min (a % 2) (b % 2)) (c % 2) ≡ min (a % 2) (min (b % 2) (c % 2)) = omega arith in
    and_step (bit_and a b) c
    ∙ ap (λ (x : ℕ). bit_and (x / 2) (c / 2) * 2 + min (x % 2) (c % 2)) (and_step a b)
    ∙ ap (λ (x : ℕ). bit_and x (c / 2) * 2 + min ((bit_and (a / 2) (b / 2) * 2 + min (a % 2) (b % 2)) % 2) (c % 2)) (digits_div (bit_and (a / 2) (b / 2)) l)
    ∙ ap (λ (x : ℕ). bit_and (bit_and (a / 2) (b / 2)) (c / 2) * 2 + min x (c % 2)) (digits_mod (bit_and (a / 2) (b / 2)) l)
    ∙ ap (λ (x : ℕ). bit_and (bit_and (a / 2) (b / 2)) (c / 2) * 2 + x) m
    ∙ ap (λ (x : ℕ). x * 2 + min (a % 2) (min (b % 2) (c % 2))) (ih (b / 2) (c / 2))
    ∙ ap (λ (x : ℕ). bit_and (a / 2) (bit_and (b / 2) (c / 2)) * 2 + min (a % 2) x) (sym (digits_mod (bit_and (b / 2) (c / 2)) r))
    ∙ ap (λ (x : ℕ). bit_and (a / 2) x * 2 + min (a % 2) ((bit_and (b / 2) (c / 2) * 2 + min (b % 2) (c % 2)) % 2)) (sym (digits_div (bit_and (b / 2) (c / 2)) r))
    ∙ ap (λ (x : ℕ). bit_and (a / 2) (x / 2) * 2 + min (a % 2) (x % 2)) (sym (and_step b c))
    ∙ sym (and_step a (bit_and b c)))
  where
    P : ℕ → Type 0
    P a = (b c : ℕ) → bit_and (bit_and a b) c ≡ bit_and a (bit_and b c)

pub subset_self : (a : ℕ) → subset a a ≡ true
unfolding subset
subset_self a = eq-eqb (bit_and a a) a (and_self a)

pub subset_trans : (a b c : ℕ) → subset a b ≡ true → subset b c ≡ true → subset a c ≡ true
unfolding subset
subset_trans a b c h k =
    let p = eqb-true (bit_and a b) a h in
    let q = eqb-true (bit_and b c) b k in
    eq-eqb (bit_and a c) a (ap (λ (x : ℕ). bit_and x c) (sym p) ∙ and_assoc a b c ∙ ap (bit_and a) q ∙ p)

-- "Flag bits the kind lacks are not a subset": what is a subset is no greater
pub subset_le : (a b : ℕ) → subset a b ≡ true → a ≤ b
unfolding subset
subset_le a b h = subst (λ (x : ℕ). x ≤ b) (eqb-true (bit_and a b) a h) (and_le_r a b)

-- ---- "kind and object, ... range inside": as facts
pub record Inside (k p : Kind) : Type 0 where
  pub kind : kind_no k ≡ kind_no p
  pub object : (object_of k).0 ≡ (object_of p).0
  pub low : low_of p ≤ low_of k
  pub high : high_of k ≤ high_of p

pub inside_facts : (k p : Kind) → inside k p ≡ true → Inside k p
unfolding inside
inside_facts k p h =
    let r₁ = and_right (eqb (kind_no k) (kind_no p)) (eqb (object_of k).0 (object_of p).0 & leb (low_of p) (low_of k) & leb (high_of k) (high_of p)) h in
    let r₂ = and_right (eqb (object_of k).0 (object_of p).0) (leb (low_of p) (low_of k) & leb (high_of k) (high_of p)) r₁ in
    record {
      kind = eqb-true (kind_no k) (kind_no p) (and_left (eqb (kind_no k) (kind_no p)) (eqb (object_of k).0 (object_of p).0 & leb (low_of p) (low_of k) & leb (high_of k) (high_of p)) h);
      object = eqb-true (object_of k).0 (object_of p).0 (and_left (eqb (object_of k).0 (object_of p).0) (leb (low_of p) (low_of k) & leb (high_of k) (high_of p)) r₁);
      low = leb-true (low_of p) (low_of k) (and_left (leb (low_of p) (low_of k)) (leb (high_of k) (high_of p)) r₂);
      high = leb-true (high_of k) (high_of p) (and_right (leb (low_of p) (low_of k)) (leb (high_of k) (high_of p)) r₂);
    }
