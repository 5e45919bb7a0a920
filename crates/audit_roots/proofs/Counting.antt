-- The counts as the loops fill them in: entry by entry, table by table.
use mathlib.Core.Bool.{Bool, false, true}
use mathlib.Core.List.{List}
use mathlib.Core.Logic.{◌≢◌}
use mathlib.Core.Path.{ap, refl, sym, ◌∙◌, ◌≡◌}
use Prim.Native.Nat.{◌*◌, ◌+◌, ◌<◌, ℕ, ◌≤◌}
use native.Mathlib.Nat.{le_trans}
use native.Mathlib.Numerals.{add-one}
use native.Mathlib.Omega.{arith}
use lib.Dec.{eqb}
use lib.ListN.{get_or, get_or-replicate, length, length-replicate, length-set, replicate, set}
use lib.Seq.{get_or-set_other, get_or-set_same}
use borrow.Author.Tests.{eqb-false, eqb-true}
use Rattle.std.proofs.lemmas.List.{get_or_append_left}
use Rattle.audit_entries.proofs.Bounded.{sum_agree}
use Rattle.audit_entries.proofs.Entries.{entries_few}
use Rattle.audit_entries.proofs.Listed.{no_head}
use Rattle.audit_objects.specs.Heads.{AreHeads}
use Rattle.rules.specs.WellFormed.{one}
use Rattle.state.specs.Layout.{Laid}
use Rattle.state.specs.Read.{read}
use Rattle.state.specs.State.{State, entries_in, place_at, places_of}
use Rattle.words.specs.Fields.{slot}
use Rattle.words.specs.Sizes.{slot_count}
use Rattle.words.specs.Tests.{sum_below}
use Rattle.audit_roots.specs.Names.{None, Place}
use Rattle.audit_roots.specs.Roots.{Counts, UpTo, counted_under, keys, more, root_key, roots_among, roots_below}
use Rattle.audit_roots.proofs.Sums.{sum_most}

-- ---- one entry
-- the count under k is one more, and the others are as they were
pub count_one : (w : List ℕ) (k : ℕ) → length w ≡ keys → k < keys → Counts (set w k (get_or w k 0 + 1)) (more w (λ j. one (eqb k j)))
count_one w k long h = record { long = length-set w k _ ∙ long; each_count = λ j l. at j (eqb k j) refl }
  where
    at : (j : ℕ) (z : Bool) → eqb k j ≡ z → get_or (set w k (get_or w k 0 + 1)) j 0 ≡ get_or w j 0 + one (eqb k j)
    at j true e = rw (e, ← eqb-true k j e) (get_or-set_same w k (get_or w k 0 + 1) 0 (omega arith))
    at j false e =
        let other : j ≢ k = λ q. eqb-false k j e (sym q) in
        rw e (get_or-set_other w k j (get_or w k 0 + 1) 0 other ∙ omega arith)

-- what is no root adds nothing
pub count_none : (w : List ℕ) → length w ≡ keys → Counts w (more w (λ j. one false))
count_none w long = record { long = long; each_count = λ j l. omega arith }

-- ---- counts that say the same, that go on, and that stay small
pub counts_same : (w : List ℕ) (f g : ℕ → ℕ) → Counts w f → ((k : ℕ) → f k ≡ g k) → Counts w g
counts_same w f g c e = record { long = c.long; each_count = λ k l. c.each_count k l ∙ e k }

pub counts_next : (w v : List ℕ) (f g h : ℕ → ℕ) → Counts w f → Counts v (more w g) → ((k : ℕ) → f k + g k ≡ h k) → Counts v h
counts_next w v f g h c d e = record { long = d.long; each_count = λ k l. d.each_count k l ∙ rw (c.each_count k l) (e k) }

pub counts_upto : (w : List ℕ) (f : ℕ → ℕ) (m : ℕ) → Counts w f → ((k : ℕ) → k < keys → f k ≤ m) → UpTo m w
counts_upto w f m c h = record { long = c.long; most = λ k l. rw (c.each_count k l) (h k l) }

-- ---- the entries of a table
among_zero : (at : ℕ → Place) (k : ℕ) → roots_among at 0 k ≡ 0
unfolding roots_among sum_below
among_zero at k = refl

pub none_yet : (w : List ℕ) (at : ℕ → Place) → length w ≡ keys → Counts w (more w (roots_among at 0))
none_yet w at long = record { long = long; each_count = λ k l. rw (among_zero at k) (omega arith) }

pub among_next : (at : ℕ → Place) (n k : ℕ) → roots_among at (n + 1) k ≡ roots_among at n k + one (counted_under (root_key (at n)) k)
unfolding roots_among sum_below
among_next at n k = rw (add-one n)

pub among_same : (at to : ℕ → Place) (n : ℕ) → ((e : ℕ) → e < n → at e ≡ to e) → (k : ℕ) → roots_among at n k ≡ roots_among to n k
unfolding roots_among
among_same at to n s k = sum_agree n _ _ (λ e l. ap (λ (p : Place). one (counted_under (root_key p) k)) (s e l))

one_most : (b : Bool) → one b ≤ 1
one_most true = omega arith
one_most false = omega arith

pub among_most : (at : ℕ → Place) (n k : ℕ) → roots_among at n k ≤ n
unfolding roots_among
among_most at n k = omega (arith, sum_most 1 n (λ e. one (counted_under (root_key (at e)) k)) (λ e l. one_most (counted_under (root_key (at e)) k)))

-- ---- the tables of the listed slots
-- the roots under k in the tables of the first n slots of the list h
unfoldable pub roots_listed : State → List ℕ → ℕ → ℕ → ℕ
roots_listed st h n k = sum_below n (λ i. roots_among (place_at st (slot (get_or h i 0))) (entries_in st (slot (get_or h i 0))) k)

pub none_below : (st : State) → Counts (replicate keys 0) (roots_below st 0)
unfolding roots_below sum_below
none_below st = record { long = length-replicate {A = ℕ} keys 0; each_count = λ k l. get_or-replicate {A = ℕ} keys k 0 0 l }

pub listed_none : (st : State) (h : List ℕ) (k : ℕ) → roots_below st 0 k ≡ roots_listed st h 0 k
unfolding roots_below roots_listed sum_below
listed_none st h k = refl

pub listed_next : (st : State) (h : List ℕ) (n k : ℕ)
    → roots_listed st h (n + 1) k ≡ roots_listed st h n k + roots_among (place_at st (slot (get_or h n 0))) (entries_in st (slot (get_or h n 0))) k
unfolding roots_listed sum_below
listed_next st h n k = rw (add-one n)

pub listed_most : (st : State) → Laid st → (h : List ℕ) (n k : ℕ) → roots_listed st h n k ≤ 512 * n
unfolding roots_listed
listed_most st w h n k =
    sum_most 512 n _ (λ i l. le_trans (among_most (place_at st (slot (get_or h i 0))) (entries_in st (slot (get_or h i 0))) k) (entries_few st w (slot (get_or h i 0))))

-- they are the roots of all slots
pub listed_all : (b h : List ℕ) → AreHeads b h → (k : ℕ) → roots_listed (read b) h (length h) k ≡ roots_below (read b) slot_count k
unfolding roots_listed roots_below
listed_all b h w k =
    sum_agree (length h) _ _
    (λ i l. ap (λ (s : ℕ). roots_among (place_at (read b) (slot s)) (entries_in (read b) (slot s)) k) (sym (get_or_append_left h w.rest 0 i l)))
    ∙ w.heads.sum (λ s. roots_among (place_at (read b) (slot s)) (entries_in (read b) (slot s)) k)
    (λ j l t. no_head b j l t (λ o. roots_among (λ e. get_or (places_of o) e None) (length (places_of o)) k ≡ 0) (among_zero _ k) (λ f. among_zero _ k))
