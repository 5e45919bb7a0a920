-- The cells of the code as the rules have them.
use Rattle.std.proofs.Common.{List, [], ◌∷◌, ◌++◌, ◌≡◌, refl, ap, ℕ, zero, suc, ◌+◌, ◌-◌, ◌<◌, Option, None, Some, take, drop, length, replicate, get_or, set, arith}
use Rattle.std.specs.List.{list_all}
use Rattle.std.specs.Option.{is_none, is_some, unwrap_or}
use Rattle.std.proofs.lemmas.List.{length-map, map-append, take-map, drop-map}
use borrow.Author.Tests.{le-leb, ne_eqb}
use Rattle.words.specs.Tests.{◌&◌}
use Rattle.state.specs.State.{splice}
use Rattle.state.proofs.Pieces.{splice_lent}
use Rattle.intel_hex.specs.Reading.{filled, full, unset, vacant}
use Rattle.intel_hex.proofs.CellLaws.{place_more}
use Rattle.hex_reading.specs.Numbers.{number, numbers}

pub vacant_all : (cells : List (Option ℕ)) → list_all is_none cells ≡ vacant (numbers cells)
unfolding vacant ◌&◌
vacant_all [] = refl
vacant_all (None ∷ cells) = vacant_all cells
vacant_all (Some b ∷ cells) = rw (ne_eqb (suc b) 0 (λ e. omega arith))

pub full_all : (cells : List (Option ℕ)) → list_all is_some cells ≡ full (numbers cells)
unfolding full ◌&◌
full_all [] = refl
full_all (None ∷ cells) = refl
full_all (Some b ∷ cells) = rw (le-leb 1 (suc b) (omega arith)) (full_all cells)

pub numbers_unset : (n : ℕ) → numbers (replicate n None) ≡ unset n
unfolding unset
numbers_unset n = go n
  where
    go : (k : ℕ) → numbers (replicate k None) ≡ replicate k 0
    go zero = refl
    go (suc k) = ap (λ (l : List ℕ). 0 ∷ l) (go k)

pub given_number : (c : Option ℕ) → unwrap_or c 0 ≡ number c - 1
given_number None = refl
given_number (Some b) = omega arith

-- a part of the cells that was lent and came back
pub numbers_lent : (cells part : List (Option ℕ)) (v : List ℕ) (at n : ℕ) → numbers part ≡ v → length v ≡ n → numbers (take at cells ++ (part ++ drop n (drop at cells))) ≡ splice at v (numbers cells)
numbers_lent cells part v at n e h =
    rw (map-append number (take at cells) (part ++ drop n (drop at cells)), map-append number part (drop n (drop at cells)), e, ← drop-map number n (drop at cells), ← drop-map number at cells, ← take-map number at cells)
    (splice_lent (numbers cells) v at n h)

pub vacant_part : (cells : List (Option ℕ)) (at n : ℕ) → list_all is_none (take n (drop at cells)) ≡ vacant (take n (drop at (numbers cells)))
vacant_part cells at n = rw (drop-map number at cells, take-map number n (drop at cells)) (vacant_all (take n (drop at cells)))

pub length_numbers : (cells : List (Option ℕ)) → length (numbers cells) ≡ length cells
length_numbers cells = length-map cells number

-- one cell more
pub place_next : (l d : List ℕ) (k b : ℕ) → k < length l → k < length d → b ≡ get_or d k 0 → set (splice 0 (filled (take k d)) l) k (suc b) ≡ splice 0 (filled (take (k + 1) d)) l
place_next l d k b h j e =
    let z : 0 + k ≡ k = omega arith in
    let s : 1 + b ≡ suc b = omega arith in
    rw (z, s) at (place_more l d 0 k b (omega arith) j e)
