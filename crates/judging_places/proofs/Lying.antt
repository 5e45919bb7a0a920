-- What an address that lies in a memory right shows.
use Rattle.std.proofs.Common.{◌≡◌, ℕ, ◌+◌, ◌*◌, ◌%◌, ◌≤◌, true, eqb, leb, leb-true}
use Rattle.words.proofs.Tests.{and_left, and_right}
use Rattle.words.specs.Sizes.{slot_size}
use Rattle.words.specs.Tests.{◌&◌}
use Rattle.judging_places.specs.Names.{KernelAddress, Stretch}

pub record Lies (m : Stretch) (a : KernelAddress) (n : ℕ) : Type 0 where
  pub from : m.low.0 ≤ a.0
  pub to : a.0 + slot_size * n ≤ m.high.0

pub lies_open : (m : Stretch) (a : KernelAddress) (n : ℕ) → (eqb (a.0 % slot_size) 0 & leb m.low.0 a.0 & leb (a.0 + slot_size * n) m.high.0) ≡ true → Lies m a n
lies_open m a n h = record { from = leb-true _ _ (and_left _ _ (and_right _ _ h)); to = leb-true _ _ (and_right _ _ (and_right _ _ h)) }
