-- A run as a search for the byte behind it finds its end, and where that can be.
use mathlib.Core.Bool.{Bool, true, false, not, cond}
use mathlib.Core.List.{List}
use mathlib.Core.Path.{◌≡◌, refl}
use Prim.Native.Nat.{ℕ, min, ◌+◌, ◌<◌, ◌≤◌}
use native.Mathlib.Decide.{dec_le, dec_lt}
use native.Mathlib.Nat.{min-eq_left, min-eq_right}
use native.Mathlib.Omega.{arith}
use lib.ListN.{drop, drop_of_length-le, length, length-drop}
use lib.Dec.{ltb}
use borrow.Author.Tests.{lt-ltb, le-ltb}
use Rattle.std.proofs.lemmas.List.Recursion.{is_position_or_len}
use Rattle.std.specs.List.{position_or_len, prefix_len}
use Rattle.std.specs.Option.{unwrap_or}
use Rattle.std.specs.Prelude.{Option, None, Some}
use Rattle.std.proofs.lemmas.List.Sums.{prefix_len-le-length}
use Rattle.lines.specs.Spans.{past_run}

-- ---- the first byte that does not pass, as a search for it gives it
ends_before : (p : ℕ → Bool) (l : List ℕ) → prefix_len p l ≡ position_or_len (λ b. not (p b)) l
ends_before p = is_position_or_len (prefix_len p) (λ b. not (p b)) refl (λ b bs. go (p b) (prefix_len p bs))
  where
    go : (z : Bool) (n : ℕ) → cond z (1 + n) 0 ≡ cond (not z) 0 (1 + n)
    go true n = omega arith
    go false n = refl

pub run_found : (p : ℕ → Bool) (l : List ℕ) (r : Option ℕ)
    → r ≡ cond (ltb (position_or_len (λ b. not (p b)) l) (length l)) (Some (position_or_len (λ b. not (p b)) l)) None
    → unwrap_or r (length l) ≡ prefix_len p l
run_found p l r e = go (dec_lt (prefix_len p l) (length l))
  where
    go : Dec (prefix_len p l < length l) → unwrap_or r (length l) ≡ prefix_len p l
    go (yes h) = rw (e, ← ends_before p l, lt-ltb _ _ h)
    go (no h) =
        let k : length l ≤ prefix_len p l = omega arith in
        rw (e, ← ends_before p l, le-ltb _ _ k) (omega (arith, prefix_len-le-length p l))

module _ (p : ℕ → Bool) (l : List ℕ) (i : ℕ) where
  pub run_from : past_run p l i ≡ min i (length l) + prefix_len p (drop (min i (length l)) l)
  unfolding past_run
  run_from = go (dec_le i (length l))
    where
      go : Dec (i ≤ length l) → min i (length l) + prefix_len p (drop i l) ≡ min i (length l) + prefix_len p (drop (min i (length l)) l)
      go (yes h) = rw (min-eq_left h)
      go (no h) =
          let k : length l ≤ i = omega arith in
          let m : length l ≤ length l = omega arith in
          rw (min-eq_right k, drop_of_length-le l k, drop_of_length-le l m)

  pub run_within : i ≤ length l → past_run p l i ≡ i + prefix_len p (drop i l)
  unfolding past_run
  run_within h = rw (min-eq_left h)

  pub run_past : length l ≤ i → past_run p l i ≡ length l
  unfolding past_run
  run_past h = rw (min-eq_right h, drop_of_length-le l h) (omega arith)

  -- ---- a run ends in the line, and behind where it starts
  pub run_ends : past_run p l i ≤ length l
  run_ends = go (dec_le i (length l))
    where
      go : Dec (i ≤ length l) → past_run p l i ≤ length l
      go (yes h) = rw (run_within h) (omega (arith, prefix_len-le-length p (drop i l), length-drop i l))
      go (no h) = rw (run_past (omega arith)) (omega arith)

  pub run_ahead : i ≤ length l → i ≤ past_run p l i
  run_ahead h = rw (run_within h) (omega arith)
