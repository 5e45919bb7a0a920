-- The entries of a table, read in its own part: their parents stand, and their chains are those of the table's places. And the tables,
-- which are all among the listed slots.
use mathlib.Core.Bool.{Bool, true}
use mathlib.Core.List.{List}
use mathlib.Core.Path.{ap, ◌≡◌}
use Prim.Native.Nat.{◌*◌, ◌<◌, ℕ}
use lib.ListN.{get_or, length}
use Rattle.audit_entries.proofs.Bounded.{all_agree}
use Rattle.audit_entries.proofs.Entries.{part_place, slots_of}
use Rattle.audit_objects.proofs.Listed.{each_head}
use Rattle.audit_objects.specs.Heads.{AreHeads}
use Rattle.rules.specs.WellFormed.{every_place, right}
use Rattle.state.specs.Read.{place_of, read}
use Rattle.state.specs.State.{Object, State, entries_in, place_at, places_of}
use Rattle.words.proofs.Tests.{all_at, all_zero}
use Rattle.words.specs.Fields.{slot}
use Rattle.words.specs.Sizes.{entry_size, slot_count}
use Rattle.words.specs.Tests.{all_below}
use Rattle.audit_chains.specs.Chains.{Ready, chained, parent_stands, place_chained}
use Rattle.audit_chains.specs.Names.{None, Place, Slot}

-- the chains of all entries of the table in slot t
abbrev pub table_chained : State → Slot → Bool
table_chained st t = all_below (entries_in st t) (λ e. place_chained st (place_at st t e))

module _ (b : List ℕ) (r : Ready b) (t : Slot) (ht : t.0 < slot_count) where
  pub part_parents : (e : ℕ) → e < entries_in (read b) t → parent_stands (read b) (place_of (slots_of b t (entries_in (read b) t)) (entry_size * e)) ≡ true
  unfolding every_place
  part_parents e h = rw (part_place b r.size t ht e h) (all_at _ _ (all_at slot_count _ r.parents t.0 ht) e h)

  pub part_chained : all_below (entries_in (read b) t) (λ e. place_chained (read b) (place_of (slots_of b t (entries_in (read b) t)) (entry_size * e)))
      ≡ table_chained (read b) t
  part_chained = all_agree (entries_in (read b) t) _ _ (λ e h. ap (λ (p : Place). place_chained (read b) p) (part_place b r.size t ht e h))

-- a slot that is not listed has no entry
pub listed_chained : (b h : List ℕ) → AreHeads b h
    → all_below (length h) (λ i. table_chained (read b) (slot (get_or h i 0))) ≡ every_place (read b) (right (λ c. chained (read b) c.origin))
unfolding every_place
listed_chained b h w =
    each_head b h w (λ (k : Slot) (o : Object). all_below (length (places_of o)) (λ e. place_chained (read b) (get_or (places_of o) e None)))
    (λ k. all_zero _) (λ k f. all_zero _)
