-- The slots behind the last one that is used: their notes are zeros, so that each of them is free.
use Rattle.std.specs.Prelude.{List, ◌≡◌, ◌*◌, ◌+◌, ◌<◌, ℕ, ◌≤◌}
use Rattle.state.specs.Read.{word_at}
use Rattle.words.specs.Sizes.{memory_length, slot_count}

pub record Vacant (b : List ℕ) (n : ℕ) : Type 0 where
  pub few : n ≤ slot_count
  pub blank : (k : ℕ) → n ≤ k → k < slot_count → word_at b (memory_length + 4 * k) ≡ 0

-- how many slots are used: the least number behind which every note is zeros
pub record Used (b : List ℕ) (n : ℕ) : Type 0 where
  pub vacant : Vacant b n
  pub least : (m : ℕ) → Vacant b m → n ≤ m
