-- A creation's address, and the slots that it needs.
use Rattle.std.specs.Prelude.{◌%◌, ◌*◌, ◌+◌, ◌-◌, ◌/◌, ℕ, eqb, leb}
use Rattle.state.specs.State.{State, is_free, obj_at}
use Rattle.words.specs.Fields.{slot}
use Rattle.words.specs.Sizes.{kernel_start, slot_size}
use Rattle.words.specs.Tests.{◌&◌, all_below}
use Rattle.words.specs.Try.{◌>>◌, Try, need, Ok}
use Rattle.rules.specs.Names.{CapFlag, CapKotbl, KernelAddress, Slot, Stretch}

-- ---- "A creation's address: CAP_FLAG if misaligned or not wholly in the memory right, then KOTBL": the first of n slots
abbrev pub slot_of : KernelAddress → Slot
slot_of a = slot ((a.0 - kernel_start) / slot_size)

unfoldable pub address_arg : State → Stretch → KernelAddress → ℕ → Try Slot
address_arg st m a n = do
  need (eqb (a.0 % slot_size) 0 & leb m.low.0 a.0 & leb (a.0 + slot_size * n) m.high.0) CapFlag
  need (all_below n (λ i. is_free (obj_at st (slot ((slot_of a).0 + i))))) CapKotbl
  Ok (slot_of a)
