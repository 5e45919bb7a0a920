-- The two searches of a directory's deletion as their loops pass them: a position in the part of its directory, the positions of a
-- directory, the directories of all slots.
use mathlib.Core.Bool.{Bool, false, true}
use mathlib.Core.List.{List}
use mathlib.Core.Path.{ap, subst, sym, ◌∙◌, ◌≡◌}
use Prim.Native.Nat.{◌*◌, ◌+◌, ◌<◌, suc, zero, ℕ, ◌≤◌}
use native.Mathlib.Nat.{le_step, lt-suc_self}
use native.Mathlib.Omega.{arith}
use lib.ListN.{drop, take}
use Rattle.rules.specs.Calls.{hangs_somewhere, has_child_directory, is_child, is_child_at}
use Rattle.state.proofs.Few.{few_positions}
use Rattle.state.proofs.Look.{position_known}
use Rattle.state.proofs.Parts.{position_part}
use Rattle.state.specs.Read.{position_of, read}
use Rattle.state.specs.State.{position_at, positions_in}
use Rattle.words.proofs.Tests.{any_found, any_more, any_none, any_zero}
use Rattle.words.specs.Fields.{slot}
use Rattle.words.specs.Sizes.{header_size, position_size, slot_count, slot_size, slots_for}
use Rattle.words.specs.Tests.{any_below}
use Rattle.judging_directories.specs.Names.{Slot}

none_of : (n : ℕ) (p : ℕ → Bool) → ((k : ℕ) → k < n → p k ≡ false) → any_below n p ≡ false
none_of zero p f = any_zero p
none_of (suc n) p f = any_more n p (none_of n p (λ k h. f k (le_step h))) (f n (lt-suc_self n))

-- position i of the directory whose slots are the part holds a child
abbrev pub child_in : List ℕ → ℕ → Bool
child_in part i = is_child (position_of part (header_size + position_size * i))

-- position i of the directory in slot k holds the directory at d; some position of it does
abbrev pub this_at : List ℕ → Slot → ℕ → ℕ → Bool
this_at b d k i = is_child_at d (position_at (read b) (slot k) i)

abbrev pub this_in : List ℕ → Slot → ℕ → Bool
this_in b d k = any_below (positions_in (read b) (slot k)) (this_at b d k)

module _ (b : List ℕ) where
  pub few_at : (k : ℕ) (t : Slot) → k < slot_count → t ≡ slot k → positions_in (read b) t ≤ 256
  few_at k t h q = rw q (few_positions b (slot k) h)

  -- in the part that the directory's slots are, the position is the one of the state
  position_here : (part : List ℕ) (t : Slot) (positions i : ℕ) → t.0 < slot_count → positions ≡ positions_in (read b) t
      → part ≡ take (slot_size * slots_for (header_size + position_size * positions)) (drop (slot_size * t.0) b) → i < positions
      → position_of part (header_size + position_size * i) ≡ position_at (read b) t i
  position_here part t positions i h m p l =
      ap (λ (x : List ℕ). position_of x (header_size + position_size * i)) p
      ∙ position_part b (slot_size * t.0) (slot_size * slots_for (header_size + position_size * positions)) (header_size + position_size * i) (omega arith)
      ∙ sym (position_known b t i h (rw m at l))

  -- ---- "directory has a child": where the loop ends, and where it is left
  module _ (part : List ℕ) (d : Slot) (positions : ℕ) (h : d.0 < slot_count) (m : positions ≡ positions_in (read b) d) (p : part ≡ take (slot_size * slots_for (header_size + position_size * positions)) (drop (slot_size * d.0) b)) where
    pub no_child : (i : ℕ) → i ≡ positions → any_below i (child_in part) ≡ false → has_child_directory (read b) d ≡ false
    unfolding has_child_directory
    no_child i z e =
        let all : any_below positions (child_in part) ≡ false = subst (λ (x : ℕ). any_below x (child_in part) ≡ false) z e in
        subst (λ (x : ℕ). any_below x (λ k. is_child (position_at (read b) d k)) ≡ false) m
        (none_of positions (λ k. is_child (position_at (read b) d k)) (λ k l. sym (ap is_child (position_here part d positions k h m p l)) ∙ any_none positions (child_in part) all k l))

    pub a_child : (i : ℕ) → i < positions → child_in part i ≡ true → has_child_directory (read b) d ≡ true
    unfolding has_child_directory
    a_child i l e =
        any_found (positions_in (read b) d) (λ k. is_child (position_at (read b) d k)) i (rw m at l) (sym (ap is_child (position_here part d positions i h m p l)) ∙ e)

  -- ---- "or is one"
  pub this_here : (part : List ℕ) (d t : Slot) (k positions i : ℕ) → k < slot_count → t ≡ slot k → positions ≡ positions_in (read b) t
      → part ≡ take (slot_size * slots_for (header_size + position_size * positions)) (drop (slot_size * t.0) b) → i < positions
      → is_child_at d (position_of part (header_size + position_size * i)) ≡ this_at b d k i
  this_here part d t k positions i h q m p l =
      let below : t.0 < slot_count = rw q h in
      ap (is_child_at d) (position_here part t positions i below m p l ∙ ap (λ (x : Slot). position_at (read b) x i) q)

  pub none_left : (d : Slot) (k : ℕ) → k ≡ slot_count → any_below k (this_in b d) ≡ false → hangs_somewhere (read b) d ≡ false
  unfolding hangs_somewhere
  none_left d k z h = subst (λ (x : ℕ). any_below x (this_in b d) ≡ false) z h

  pub one_found : (d : Slot) (k i : ℕ) → k < slot_count → i < positions_in (read b) (slot k) → this_at b d k i ≡ true → hangs_somewhere (read b) d ≡ true
  unfolding hangs_somewhere
  one_found d k i h l e = any_found slot_count (this_in b d) k h (any_found (positions_in (read b) (slot k)) (this_at b d k) i l e)
