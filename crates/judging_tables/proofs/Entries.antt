-- The entries of a table as the loop through its own part passes them: an entry there is the one of the state.
use mathlib.Core.Bool.{Bool, false, true}
use mathlib.Core.List.{List}
use mathlib.Core.Path.{ap, sym, ◌∙◌, ◌≡◌}
use Prim.Native.Nat.{◌*◌, ◌<◌, ℕ}
use native.Mathlib.Omega.{arith}
use lib.ListN.{drop, take}
use Rattle.rules.specs.Calls.{is_empty_table}
use Rattle.state.proofs.Look.{place_known}
use Rattle.state.proofs.Parts.{place_part}
use Rattle.state.specs.Read.{place_of, read}
use Rattle.state.specs.State.{entries_in, place_at}
use Rattle.words.proofs.Tests.{all_at, all_not, all_of}
use Rattle.words.specs.Rights.{is_blank}
use Rattle.words.specs.Sizes.{entry_size, slot_count, slot_size, slots_for}
use Rattle.words.specs.Tests.{all_below}
use Rattle.judging_tables.specs.Names.{Slot}

-- entry e of the table whose slots are the part is blank
abbrev pub blank_in : List ℕ → ℕ → Bool
blank_in part e = is_blank (place_of part (entry_size * e))

module _ (b part : List ℕ) (o : Slot) (entries : ℕ) (below : o.0 < slot_count) (all : entries ≡ entries_in (read b) o)
    (own : part ≡ take (slot_size * slots_for (entry_size * entries)) (drop (slot_size * o.0) b)) where
  blank_here : (e : ℕ) → e < entries → blank_in part e ≡ is_blank (place_at (read b) o e)
  blank_here e l =
      ap is_blank
      (ap (λ (x : List ℕ). place_of x (entry_size * e)) own
      ∙ place_part b (slot_size * o.0) (slot_size * slots_for (entry_size * entries)) (entry_size * e) (omega arith)
      ∙ sym (place_known b o e below (rw all at l)))

  -- where the loop ends, and where it is left
  pub all_blank : all_below entries (blank_in part) ≡ true → is_empty_table (read b) o ≡ true
  unfolding is_empty_table
  all_blank h = all_of (entries_in (read b) o) _ λ e l.
      let there : e < entries = rw (← all) at l in
      sym (blank_here e there) ∙ all_at entries (blank_in part) h e there

  pub one_filled : (e : ℕ) → e < entries → blank_in part e ≡ false → is_empty_table (read b) o ≡ false
  unfolding is_empty_table
  one_filled e l h = all_not (entries_in (read b) o) _ e (rw all at l) (sym (blank_here e l) ∙ h)
