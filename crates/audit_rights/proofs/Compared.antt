-- A right from the words of its entry, and a parent compared by its words.
use mathlib.Core.Bool.{Bool, false, true}
use mathlib.Core.List.{List}
use mathlib.Core.Path.{ap, refl, sym, ◌∙◌, ◌≡◌}
use Prim.Native.Nat.{◌+◌, ◌<◌, suc, zero, ℕ, ◌≤◌}
use native.Mathlib.Nat.{not-suc-le-zero}
use native.Mathlib.Omega.{arith}
use lib.Dec.{eqb, leb}
use lib.ListN.{get_or}
use borrow.Author.Tests.{eqb-true, leb-false, leb-true, ne_eqb}
use Rattle.audit_objects.proofs.Checks.{word_small}
use Rattle.rules.specs.WellFormed.{parent_fits, right}
use Rattle.state.specs.Read.{held, origin_from, place_from, place_of, word_at}
use Rattle.state.specs.State.{State}
use Rattle.words.proofs.Tests.{and_no, and_yes}
use Rattle.words.specs.Fields.{slot}
use Rattle.words.specs.Rights.{inside, kind_no, subset}
use Rattle.words.specs.Tests.{◌&◌}
use Rattle.audit_rights.specs.ButChain.{bare, right_but_chain}
use Rattle.audit_rights.specs.ByWords.{inside_words, kind_from}
use Rattle.audit_rights.specs.Names.{None, Capability, Directory, Endpoint, Frost, Function, Kind, Memory, Origin, Process, Slot, Table}
use Rattle.audit_rights.proofs.Standing.{and_true, right_bare}

-- what holds of each number of a kind
number_cases : (P : ℕ → Type 0) (t : ℕ) → P 1 → P 2 → P 3 → P 4 → P 5 → P 6 → 1 ≤ t → t ≤ 6 → P t
number_cases P zero p1 p2 p3 p4 p5 p6 a z = absurd (not-suc-le-zero a)
number_cases P (suc zero) p1 p2 p3 p4 p5 p6 a z = p1
number_cases P (suc (suc zero)) p1 p2 p3 p4 p5 p6 a z = p2
number_cases P (suc (suc (suc zero))) p1 p2 p3 p4 p5 p6 a z = p3
number_cases P (suc (suc (suc (suc zero)))) p1 p2 p3 p4 p5 p6 a z = p4
number_cases P (suc (suc (suc (suc (suc zero))))) p1 p2 p3 p4 p5 p6 a z = p5
number_cases P (suc (suc (suc (suc (suc (suc zero)))))) p1 p2 p3 p4 p5 p6 a z = p6
number_cases P (suc (suc (suc (suc (suc (suc (suc n))))))) p1 p2 p3 p4 p5 p6 a z = absurd (omega arith)

-- ---- an entry whose kind has a number from 1 to 6 is a right of that kind, and any other is blank
module _ (t : ℕ) (o : Slot) (l h : ℕ) where
  kind_numbered : 1 ≤ t → t ≤ 6 → kind_no (kind_from t o l h) ≡ t
  unfolding kind_from
  kind_numbered = number_cases (λ n. kind_no (kind_from n o l h) ≡ n) t refl refl refl refl refl refl

  place_held : (f : ℕ) (x : Frost) (r : Origin) → 1 ≤ t → t ≤ 6 → place_from t o l h f x r ≡ held (kind_from t o l h) f x r
  unfolding kind_from place_from
  place_held f x r = number_cases (λ n. place_from n o l h f x r ≡ held (kind_from n o l h) f x r) t refl refl refl refl refl refl

  place_blank : (f : ℕ) (x : Frost) (r : Origin) → (1 ≤ t → t ≤ 6 → ⊥) → place_from t o l h f x r ≡ None
  unfolding place_from
  place_blank f x r d =
      rw (
        ne_eqb t 1 (λ e. d (omega arith) (omega arith)),
        ne_eqb t 2 (λ e. d (omega arith) (omega arith)),
        ne_eqb t 3 (λ e. d (omega arith) (omega arith)),
        ne_eqb t 4 (λ e. d (omega arith) (omega arith)),
        ne_eqb t 5 (λ e. d (omega arith) (omega arith)),
        ne_eqb t 6 (λ e. d (omega arith) (omega arith)),
      )

-- ---- "its parent's kind and object, ... range inside the parent's"
same_kind : (k : Kind) (o : Slot) (l h : ℕ) → inside k (kind_from (kind_no k) o l h) ≡ inside_words k o.0 l h
unfolding inside kind_from inside_words ◌&◌
same_kind (Table a) o l h = and_true (eqb a.0 o.0)
same_kind (Directory a x y) o l h = refl
same_kind (Memory x y) o l h = refl
same_kind (Process a) o l h = and_true (eqb a.0 o.0)
same_kind (Endpoint a) o l h = and_true (eqb a.0 o.0)
same_kind (Function x y) o l h = refl

numbered : (k : Kind) → (1 ≤ kind_no k) × (kind_no k ≤ 6)
numbered (Table o) = (omega arith, omega arith)
numbered (Directory o l h) = (omega arith, omega arith)
numbered (Memory l h) = (omega arith, omega arith)
numbered (Process o) = (omega arith, omega arith)
numbered (Endpoint o) = (omega arith, omega arith)
numbered (Function l h) = (omega arith, omega arith)

module _ (c : Capability) (t : ℕ) (o : Slot) (l h f : ℕ) (x : Frost) (r : Origin) where
  fits_from : parent_fits c (place_from t o l h f x r) ≡ (eqb (kind_no c.kind) t & inside_words c.kind o.0 l h & subset c.flags f)
  unfolding inside
  fits_from = go (eqb (kind_no c.kind) t) refl
    where
      other : eqb (kind_no c.kind) t ≡ false → (y z : Bool) → leb 1 t ≡ y → leb t 6 ≡ z → parent_fits c (place_from t o l h f x r) ≡ false
      other e true true a b =
          ap (parent_fits c) (place_held t o l h f x r (leb-true _ _ a) (leb-true _ _ b))
          ∙ and_no _ _ (and_no _ _ (ap (eqb (kind_no c.kind)) (kind_numbered t o l h (leb-true _ _ a) (leb-true _ _ b)) ∙ e))
      other e true false a b = let q : 6 < t = leb-false _ _ b in ap (parent_fits c) (place_blank t o l h f x r (λ m n. omega arith))
      other e false z a b = let q : t < 1 = leb-false _ _ a in ap (parent_fits c) (place_blank t o l h f x r (λ m n. omega arith))

      go : (z : Bool) → eqb (kind_no c.kind) t ≡ z
          → parent_fits c (place_from t o l h f x r) ≡ (eqb (kind_no c.kind) t & inside_words c.kind o.0 l h & subset c.flags f)
      go true e =
          let q : kind_no c.kind ≡ t = eqb-true _ _ e in
          ap (parent_fits c) (place_held t o l h f x r (omega (arith, (numbered c.kind).0)) (omega (arith, (numbered c.kind).1)))
          ∙ ap (λ (n : ℕ). inside c.kind (kind_from n o l h) & subset c.flags f) (sym q)
          ∙ ap (λ (z : Bool). z & subset c.flags f) (same_kind c.kind o l h)
          ∙ rest
        where
          rest : (inside_words c.kind o.0 l h & subset c.flags f) ≡ (eqb (kind_no c.kind) t & inside_words c.kind o.0 l h & subset c.flags f)
          rest = sym (and_yes _ _ e)
      go false e = other e (leb 1 t) (leb t 6) refl refl ∙ sym (and_no _ _ e)

-- a parent by the words of its entry
pub parent_words : (c : Capability) (b : List ℕ) (at : ℕ) → parent_fits c (place_of b at)
    ≡ (eqb (kind_no c.kind) (word_at b at) & inside_words c.kind (get_or b (at + 16) 0) (word_at b (at + 8)) (word_at b (at + 12)) & subset c.flags (word_at b (at + 4)))
unfolding place_of
parent_words c b at = fits_from c (word_at b at) (slot (get_or b (at + 16) 0)) _ _ _ _ _

-- ---- an entry by its words
module _ (st : State) (b : List ℕ) (at : ℕ) where
  pub entry_blank : (1 ≤ word_at b at → word_at b at ≤ 6 → ⊥) → right (right_but_chain st) (place_of b at) ≡ true
  unfolding place_of
  entry_blank d = ap (right (right_but_chain st)) (place_blank (word_at b at) _ _ _ _ _ _ d)

  pub entry_right : ((i : ℕ) → get_or b i 0 < 256) → 1 ≤ word_at b at → word_at b at ≤ 6
      → right (right_but_chain st) (place_of b at)
      ≡ right_but_chain st
      (bare (kind_from (word_at b at) (slot (get_or b (at + 16) 0)) (word_at b (at + 8)) (word_at b (at + 12))) (word_at b (at + 4)) (origin_from (word_at b (at + 28))))
  unfolding place_of
  entry_right f m n =
      ap (right (right_but_chain st)) (place_held (word_at b at) _ _ _ _ _ _ m n)
      ∙ right_bare st _ _ _ (word_at b (at + 20)) (word_at b (at + 24)) (word_small b (at + 24) f)
