-- The laws of `starts`: one piece after the other, what lies behind does not matter, and lists of one length.
use mathlib.Core.Bool.{Bool, false, true}
use mathlib.Core.List.{◌++◌, List, [], ◌∷◌}
use mathlib.Core.Path.{◌≡◌, ap, refl, sym, ◌∙◌}
use Prim.Native.Nat.{suc, zero, ℕ, ◌≤◌}
use native.Mathlib.Nat.{le_of_suc-le-suc, not-suc-le-zero}
use native.Mathlib.Omega.{arith}
use lib.Dec.{eqb}
use lib.ListN.{drop, length, take}
use borrow.Author.Tests.{eqb-true}
use Rattle.rules.specs.Buffer.{same}
use Rattle.words.proofs.Tests.{and_left, and_right, and_yes}
use Rattle.words.specs.Tests.{◌&◌}
use Rattle.audit_bytes.specs.Stands.{starts}
use Rattle.audit_bytes.proofs.Tests.{and_assoc, eqb_self}

pub starts_append : (a b l : List ℕ) → starts (a ++ b) l ≡ (starts a l & starts b (drop (length a) l))
unfolding starts ◌&◌
starts_append [] b l = refl
starts_append (x ∷ a) b [] = refl
starts_append (x ∷ a) b (y ∷ l) = ap (λ (t : Bool). eqb x y & t) (starts_append a b l) ∙ sym (and_assoc (eqb x y) (starts a l) (starts b (drop (length a) l)))

pub starts_nil : (l : List ℕ) → starts [] l ≡ true
unfolding starts
starts_nil l = refl

pub starts_self : (a l : List ℕ) → starts a (a ++ l) ≡ true
unfolding starts
starts_self [] l = refl
starts_self (x ∷ a) l = and_yes _ _ (eqb_self x) ∙ starts_self a l

pub starts_take : (v l : List ℕ) (m : ℕ) → length v ≤ m → starts v (take m l) ≡ starts v l
unfolding starts
starts_take [] l m h = refl
starts_take (x ∷ v) l zero h = absurd (not-suc-le-zero h)
starts_take (x ∷ v) [] (suc m) h = refl
starts_take (x ∷ v) (y ∷ l) (suc m) h = ap (λ (t : Bool). eqb x y & t) (starts_take v l m (le_of_suc-le-suc h))

pub same_starts : (v l : List ℕ) → length v ≡ length l → same v l ≡ starts v l
unfolding starts same ◌&◌
same_starts [] [] e = refl
same_starts [] (y ∷ l) e = absurd (let z : ◌≡◌ {A = ℕ} 0 1 = omega arith in omega arith)
same_starts (x ∷ v) [] e = absurd (let z : ◌≡◌ {A = ℕ} 0 1 = omega arith in omega arith)
same_starts (x ∷ v) (y ∷ l) e = go (eqb x y) refl (same_starts v l (omega arith))
  where
    go : (t : Bool) → eqb x y ≡ t → same v l ≡ starts v l → same (x ∷ v) (y ∷ l) ≡ starts (x ∷ v) (y ∷ l)
    go true q ih = rw (q, same) ih
    go false q ih = rw (q, same)

-- of one length, what starts is what stands
pub starts_same : (v w r : List ℕ) → length v ≡ length w → starts v (w ++ r) ≡ true → v ≡ w
unfolding starts
starts_same [] [] r e t = refl
starts_same [] (y ∷ w) r e t = absurd (let z : ◌≡◌ {A = ℕ} 0 1 = omega arith in omega arith)
starts_same (x ∷ v) [] r e t = absurd (let z : ◌≡◌ {A = ℕ} 0 1 = omega arith in omega arith)
starts_same (x ∷ v) (y ∷ w) r e t =
    λ i. eqb-true x y (and_left _ _ t) i ∷ starts_same v w r (omega arith) (and_right _ _ t) i
