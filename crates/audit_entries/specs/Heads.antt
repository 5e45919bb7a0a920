-- A list of the slots that have a note of their own: what is asked of every slot, and what is counted over all slots, can be
-- asked of and counted over the list, where the slots that are free or in which an object goes on pass and count nothing.
use Rattle.std.specs.Prelude.{Bool, true, List, [], ◌∷◌, ◌++◌, ◌≡◌, ◌*◌, ◌+◌, ◌<◌, suc, zero, ℕ, ◌≤◌, ltb, drop, get_or, length}
use Rattle.words.specs.Sizes.{memory_length, slot_count}
use Rattle.words.specs.Tests.{all_below, choose, sum_below}

-- slot k is free, or an object goes on in it
abbrev pub NoHead : List ℕ → ℕ → Type 0
NoHead b k = get_or b (memory_length + 4 * k) 0 ≤ 1

-- the first m numbers of h, for the first k slots
pub record Heads (b h : List ℕ) (m k : ℕ) : Type 0 where
  pub long : length h ≡ slot_count
  pub few : m ≤ k
  pub all : (p : ℕ → Bool) → ((j : ℕ) → j < k → NoHead b j → p j ≡ true) → all_below m (λ i. p (get_or h i 0)) ≡ all_below k p
  pub sum : (f : ℕ → ℕ) → ((j : ℕ) → j < k → NoHead b j → f j ≡ 0) → sum_below m (λ i. f (get_or h i 0)) ≡ sum_below k f

-- the slots below k that have a note of their own, in order
unfoldable pub heads_below : List ℕ → ℕ → List ℕ
heads_below b zero = []
heads_below b (suc k) = choose (ltb 1 (get_or b (memory_length + 4 * k) 0)) (heads_below b k ++ k ∷ []) (heads_below b k)

-- the first m numbers of h are all of them, and behind them stands what stood there before
pub record Listed (b before h : List ℕ) (m : ℕ) : Type 0 where
  pub heads : Heads b h m slot_count
  pub list : h ≡ heads_below b slot_count ++ drop m before
  pub count : m ≡ length (heads_below b slot_count)
