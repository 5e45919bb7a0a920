-- "Reading a call": the fields of the four words.
use Rattle.std.specs.Prelude.{ℕ, ◌/◌, ◌%◌}
use Rattle.words.specs.Names.{Slot, CapabilityNumber, KernelAddress, Count, Words}

-- the declared numbers
abbrev pub slot : ℕ → Slot
slot n = record { 0 = n }

abbrev pub address : ℕ → KernelAddress
address n = record { 0 = n }

abbrev pub count : ℕ → Count
count n = record { 0 = n }

abbrev pub capability_number : ℕ → CapabilityNumber
capability_number n = record { 0 = n }

-- "D1 is a word's high half, D0 its low half"
abbrev pub D1 : ℕ → ℕ
D1 x = x / 65536

abbrev pub D0 : ℕ → ℕ
D0 x = x % 65536

-- "N:C (N is the high half)"
abbrev pub N : Words → ℕ
N w = D1 w.nc

abbrev pub C : Words → ℕ
C w = D0 w.nc

-- "Q1 and Q0 are the high and low byte of P1.D0"
abbrev pub Q1 : Words → ℕ
Q1 w = D0 w.p1 / 256

abbrev pub Q0 : Words → ℕ
Q0 w = w.p1 % 256

-- "N[5:0] is the call number"
abbrev pub call_number : Words → ℕ
call_number w = N w % 64

-- "N[15:8] number order"
abbrev pub number_order : Words → ℕ
number_order w = N w / 256
