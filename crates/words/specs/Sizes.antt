-- The numbers of document 01 that the rules and the layout share, a name each.
use Rattle.std.specs.Prelude.{ℕ, ◌+◌, ◌/◌}

-- "in 256 slots of 64 bytes"
abbrev pub slot_size : ℕ
slot_size = 64

abbrev pub slot_count : ℕ
slot_count = 256

-- "Kernel addresses run from 0x20000000 to below 0x20004000"
abbrev pub kernel_start : ℕ
kernel_start = 0x20000000

abbrev pub kernel_end : ℕ
kernel_end = 0x20004000

-- "exactly 17,472 bytes: 16,384 of kernel memory, 1,024 of slot bookkeeping, 64 for the clock and spare"
abbrev pub memory_length : ℕ
memory_length = 16384

abbrev pub state_length : ℕ
state_length = 17472

-- where the clock stands
abbrev pub clock_offset : ℕ
clock_offset = 17408

-- "table of 1..64 entries, 32 bytes each"; "(32 + 8·2^k) bytes"
abbrev pub entry_size : ℕ
entry_size = 32

abbrev pub header_size : ℕ
header_size = 32

abbrev pub position_size : ℕ
position_size = 8

abbrev pub most_entries : ℕ
most_entries = 64

-- "size order 6..31, number order 1..8, sum at most 32"
abbrev pub least_size_order : ℕ
least_size_order = 6

abbrev pub most_size_order : ℕ
most_size_order = 31

abbrev pub least_number_order : ℕ
least_number_order = 1

abbrev pub most_number_order : ℕ
most_number_order = 8

abbrev pub most_order_sum : ℕ
most_order_sum = 32

-- one mark for each possible table entry: 256 slots of two entries
abbrev pub place_count : ℕ
place_count = 512

-- "frozen for fewer than 8 ticks"
abbrev pub quiet_ticks : ℕ
quiet_ticks = 8

-- bytes, "rounded up to slots"
abbrev pub slots_for : ℕ → ℕ
slots_for n = (n + 63) / 64
