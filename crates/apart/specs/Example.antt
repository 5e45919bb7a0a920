-- A state to which demand 3 applies, made from boot by calls: a keeper, and two others beside it, reader and receiver. Each has its range of slots,
-- and in it a table of 8 entries, a process and an endpoint; the roots of all these stay with the boot process.
use Rattle.std.specs.Prelude.{◌≡◌, ◌⊎◌, List, [], ◌∷◌, ℕ}
use Rattle.state.specs.State.{State}
use Rattle.rules.specs.Boot.{boot}
use Rattle.rules.specs.Run.{Event, tick, call}
use Rattle.rules.specs.Cases.{four, after_all}
use Rattle.apart.specs.Names.{Words}

-- reader: slots 64 to below 96; its table at 64, its process at 68, its endpoint at 69, with their roots in places 6, 7 and 8 of the boot table.
-- It gets its own table, its memory, its endpoint to receive from, the boot directory to create processes with, and the receiver's endpoint to send to
abbrev pub reader_made : List Words
reader_made =
    four 0x00010000 0x00040006 0x20001000 8
    ∷ four 0x000C0000 0x00040007 0x00060001 0x20001100
    ∷ four 0x00100000 4 8 0x20001140 ∷ []

abbrev pub reader_given : List Words
reader_given =
    four 0x00030000 0x00060000 6 255
    ∷ four 0x1803103F 0x00060001 4 0x20002000
    ∷ four 0x00030000 0x00060002 8 24
    ∷ four 0x00030000 0x00060003 1 0x00700040
    ∷ four 0x00030000 0x00060004 11 1 ∷ []

-- receiver: slots 96 to below 128; table at 96, process at 100, endpoint at 101; roots in places 9, 10 and 11. It may send to the keeper's endpoint
abbrev pub receiver_made : List Words
receiver_made =
    four 0x00010000 0x00040009 0x20001800 8
    ∷ four 0x000C0000 0x0004000A 0x00090001 0x20001900
    ∷ four 0x00100000 4 11 0x20001940 ∷ []

abbrev pub receiver_given : List Words
receiver_given =
    four 0x00030000 0x00090000 9 255
    ∷ four 0x2003183F 0x00090001 4 0x20002000
    ∷ four 0x00030000 0x00090002 11 24
    ∷ four 0x00030000 0x00090004 14 1 ∷ []

-- keeper: slots 128 to below 160; table at 128, process at 132, endpoint at 133; roots in places 12, 13 and 14
abbrev pub keeper_made : List Words
keeper_made =
    four 0x00010000 0x0004000C 0x20002000 8
    ∷ four 0x000C0000 0x0004000D 0x000C0001 0x20002100
    ∷ four 0x00100000 4 14 0x20002140 ∷ []

abbrev pub keeper_given : List Words
keeper_given =
    four 0x00030000 0x000C0000 12 255
    ∷ four 0x2803203F 0x000C0001 4 0x20002000
    ∷ four 0x00030000 0x000C0002 14 24 ∷ []

unfoldable pub stations : State
stations = after_all (after_all (after_all (after_all (after_all (after_all boot reader_made) receiver_made) keeper_made) reader_given) receiver_given) keeper_given

-- the others: reader and receiver
abbrev pub Others : ℕ → Type 0
Others p = (p ≡ 68) ⊎ (p ≡ 100)

-- the reader makes a process at slot 72 and the clock ticks; the new process makes an endpoint at slot 80, and tries to make one in the keeper's range, at slot 140;
-- the receiver sends to the keeper's endpoint
abbrev pub events : List Event
events =
    call 68 (four 0x000C0000 0x00010005 0x00000003 0x20001200)
    ∷ tick
    ∷ call 72 (four 0x00100000 1 6 0x20001400)
    ∷ call 72 (four 0x00100000 1 7 0x20002300)
    ∷ call 100 (four 0x00120000 4 0 0) ∷ []

-- ---- one right too many: the boot process also gives the reader the last 8 slots of the keeper's range, in entry 5 of its table
unfoldable pub leaky : State
leaky = after_all stations (four 0x2803263F 0x00060005 4 0x20002000 ∷ [])

-- and the reader makes an endpoint in the last of them, slot 159
abbrev pub theft : List Event
theft = call 68 (four 0x00100000 5 6 0x200027C0) ∷ []

-- ---- or one original right: the boot process makes an endpoint in the keeper's range, at slot 140, and its root in entry 5 of the reader's table
unfoldable pub loose : State
loose = after_all stations (four 0x00100006 4 5 0x20002300 ∷ [])

-- and the reader freezes it, waits, and deletes
abbrev pub removal : List Event
removal =
    call 68 (four 0x00040000 5 0 0)
    ∷ tick ∷ tick ∷ tick ∷ tick ∷ tick ∷ tick ∷ tick ∷ tick
    ∷ call 68 (four 0x00110000 5 0 0) ∷ []
