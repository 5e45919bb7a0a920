-- What is asked of each listed slot is asked of every slot, where the slots that are free or in which an object goes on pass.
use mathlib.Core.Bool.{Bool, true}
use mathlib.Core.List.{List, ◌++◌}
use mathlib.Core.Path.{ap, sym, ◌∙◌, ◌≡◌}
use Prim.Native.Nat.{ℕ}
use native.Mathlib.Omega.{arith}
use lib.ListN.{get_or, length}
use Rattle.std.proofs.lemmas.List.{get_or_append_left}
use Rattle.std.proofs.lemmas.List.Elements.{All-from_get_or, All-get_or}
use Rattle.std.proofs.lemmas.List.FromFn.{get_or-range_with_len, length-range_with_len}
use Rattle.std.proofs.lemmas.List.Sums.{AllPass-from_list_all, list_all-from_AllPass}
use Rattle.std.specs.List.{list_all, range_with_len}
use Rattle.audit_entries.proofs.Bounded.{all_agree}
use Rattle.audit_entries.proofs.Listed.{heads_objects}
use Rattle.state.specs.Read.{read}
use Rattle.state.specs.State.{Object, body, free, obj_at}
use Rattle.words.proofs.Tests.{all_at, all_of, iff}
use Rattle.words.specs.Fields.{slot}
use Rattle.words.specs.Sizes.{slot_count}
use Rattle.words.specs.Tests.{all_below}
use Rattle.audit_objects.specs.Heads.{AreHeads}
use Rattle.audit_objects.specs.Names.{Slot}

module _ (p : ℕ → Bool) where
  -- a test of each number of a list, as the chain `all` asks it and as the rules do
  pub all_listed : (xs : List ℕ) → list_all p xs ≡ all_below (length xs) (λ i. p (get_or xs i 0))
  all_listed xs =
      iff _ _
      (λ h. all_of (length xs) (λ i. p (get_or xs i 0)) (λ k l. All-get_or (λ x. p x ≡ true) xs k 0 l (AllPass-from_list_all p xs h)))
      (λ h. list_all-from_AllPass p xs (All-from_get_or (λ x. p x ≡ true) xs 0 (all_at (length xs) (λ i. p (get_or xs i 0)) h)))

  pub all_numbers : (n : ℕ) → list_all p (range_with_len 0 n) ≡ all_below n p
  all_numbers n =
      all_listed (range_with_len 0 n)
      ∙ rw (length-range_with_len 0 n) (all_agree n _ _ (λ i l. ap p (get_or-range_with_len 0 n i 0 l ∙ omega arith)))

-- a test that free slots and later slots pass
module _ (b h : List ℕ) (w : AreHeads b h) (p : Slot → Object → Bool) (x : (k : Slot) → p k free ≡ true) (y : (k f : Slot) → p k (body f) ≡ true) where
  abbrev passes : ℕ → Bool
  passes k = p (slot k) (obj_at (read b) (slot k))

  pub each_head : all_below (length h) (λ i. passes (get_or h i 0)) ≡ all_below slot_count passes
  each_head =
      all_agree (length h) _ _ (λ i l. ap passes (sym (get_or_append_left h w.rest 0 i l)))
      ∙ heads_objects b (h ++ w.rest) (length h) w.heads p x y

  pub all_heads : list_all passes h ≡ all_below slot_count passes
  all_heads = all_listed passes h ∙ each_head
