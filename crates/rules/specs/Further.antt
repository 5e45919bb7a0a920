-- Further cases: document 01's that bear no mark, its "slips that look right", and points that its wording settles. Proved in proofs/Worked.antt.
use Rattle.std.specs.Prelude.{Bool, true, List, [], ◌∷◌, ◌-◌, ◌^◌, suc, zero, ℕ, negsuc, pos, ℤ}
use Rattle.state.specs.State.{State, endpoint, put}
use Rattle.words.specs.Fields.{count, slot}
use Rattle.words.specs.Tests.{◌&◌}
use Rattle.rules.specs.Boot.{boot}
use Rattle.rules.specs.Calls.{plan}
use Rattle.rules.specs.Cases.{four, same_answer}
use Rattle.rules.specs.Commit.{after, answer, ticked}
use Rattle.rules.specs.Names.{Words}
use Rattle.rules.specs.Run.{Event, call, tick}

-- ---- from a state, events; then a call by 18 and its answer
pub record Script : Type 0 where
  pub first : State
  pub events : List Event
  pub words : Words
  pub answered : ℤ

abbrev pub script : List Event → Words → ℤ → Script
script es w a = record { first = boot; events = es; words = w; answered = a }

abbrev pub by18 : ℕ → ℕ → ℕ → ℕ → Event
by18 nc p1 p2 p3 = call 18 (four nc p1 p2 p3)

-- n ticks, then the rest
abbrev pub ticks_then : ℕ → List Event → List Event
ticks_then zero es = es
ticks_then (suc n) es = tick ∷ ticks_then n es

-- a table of 4 entries at slot 20, its root at place 6
abbrev pub make_table : Event
make_table = by18 0x00010000 0x00040006 0x20000500 4

-- an endpoint at slot 24, its root at place 7
abbrev pub make_endpoint : Event
make_endpoint = by18 0x00100000 4 7 0x20000600

-- a right with SND to that endpoint, at place 0 of that table
abbrev pub hand_over : Event
hand_over = by18 0x00030000 0x00060000 0x00000007 1

abbrev pub freeze_place : ℕ → Event
freeze_place e = by18 0x00040000 e 0 0

-- a directory of size order 26 and number order 3 at slot 20, its root at place 6; hung at position 0 of the boot directory, whose page goes first
abbrev pub hung_then : List Event → List Event
hung_then es = by18 0x03060000 0x0004061A 0x20000500 0 ∷ by18 0x00090000 1 0 0 ∷ by18 0x000A0000 0x00010006 0 7 ∷ es

-- "Count 2^32−1"
abbrev pub full_endpoint : State
full_endpoint = put boot (slot 19) (endpoint (count (2 ^ 32 - 1)) true)

abbrev pub scripts : List Script
scripts =
    -- "An endpoint through it at place 7, each alone: 0x200007C0 is 0, 0x20000800 is −5"
    script (by18 0x08030410 6 4 0x20002000 ∷ []) (four 0x00100000 6 7 0x200007C0) (pos 0)
    ∷ script (by18 0x08030410 6 4 0x20002000 ∷ []) (four 0x00100000 6 7 0x20000800) (negsuc 4)
    -- "Frozen at tick t: delete at t+7 is −8, at t+8 passes to REFCNT": the boot directory, which the boot process uses
    ∷ script (freeze_place 1 ∷ ticks_then 7 []) (four 0x00070000 1 0 0) (negsuc 7)
    ∷ script (freeze_place 1 ∷ ticks_then 8 []) (four 0x00070000 1 0 0) (negsuc 8)
    -- "Count 2^32−1, NM: 2147483647"; and one more signal is refused
    ∷ record { first = full_endpoint; events = []; words = four 0x00130000 5 3 0; answered = pos 2147483647 }
    ∷ record { first = full_endpoint; events = []; words = four 0x00120000 5 0 0; answered = negsuc 13 }
    -- "leaving 2147483648": it takes three more receipts to empty it
    ∷ record { first = full_endpoint; events = by18 0x00130000 5 3 0 ∷ by18 0x00130000 5 3 0 ∷ []; words = four 0x00130000 5 3 0; answered = pos 1 }
    -- "Children counted in one table only": the child lies in another table. Without a child the deletion passes
    ∷ script (make_table ∷ make_endpoint ∷ hand_over ∷ freeze_place 7 ∷ ticks_then 8 []) (four 0x00110000 7 0 0) (negsuc 8)
    ∷ script (make_table ∷ make_endpoint ∷ freeze_place 7 ∷ ticks_then 8 []) (four 0x00110000 7 0 0) (pos 0)
    -- "A directory deleted while it hangs under another"; "directory has a child or is one"
    ∷ script (hung_then (freeze_place 6 ∷ ticks_then 8 [])) (four 0x00070000 6 0 0) (negsuc 9)
    -- taken down first, it goes
    ∷ script (hung_then (by18 0x000B0000 1 0 0 ∷ freeze_place 6 ∷ ticks_then 8 [])) (four 0x00070000 6 0 0) (pos 0)
    -- "Middle tables of two-step numbers read without the frozen test": the endpoint 5 through entry 0, before and after entry 0 is frozen
    ∷ script [] (four 0x00120000 0x0085 0 0) (pos 0)
    ∷ script (freeze_place 0 ∷ []) (four 0x00120000 0x0085 0 0) (negsuc 1)
    -- "KOTBL answered for a range fault": the slot 19 is occupied, and lies outside the right as well
    ∷ script (by18 0x08030410 6 4 0x20002000 ∷ by18 0x08030410 7 6 0x20002000 ∷ []) (four 0x00100000 6 8 0x200004C0) (negsuc 6)
    ∷ script (by18 0x08030510 6 4 0x20002000 ∷ []) (four 0x00100000 6 8 0x200004C0) (negsuc 4)
    -- a table to delete must be empty; a root is not removed, a child is not deleted
    ∷ script (make_table ∷ make_endpoint ∷ hand_over ∷ freeze_place 6 ∷ ticks_then 8 []) (four 0x00020000 6 0 0) (negsuc 5)
    ∷ script (make_endpoint ∷ freeze_place 7 ∷ ticks_then 8 []) (four 0x00050000 7 0 0) (negsuc 8)
    -- "child to delete": a right with SND to that endpoint, at place 8 of the boot table
    ∷ script (make_endpoint ∷ by18 0x00030000 8 7 1 ∷ freeze_place 8 ∷ ticks_then 8 []) (four 0x00110000 8 0 0) (negsuc 8)
    -- and it can be removed
    ∷ script (make_endpoint ∷ by18 0x00030000 8 7 1 ∷ freeze_place 8 ∷ ticks_then 8 []) (four 0x00050000 8 0 0) (pos 0)
    -- a new table is blank, so that its place 0 can be filled
    ∷ script (make_table ∷ make_endpoint ∷ []) (four 0x00030000 0x00060000 0x00000007 1) (pos 0)
    -- "P2 table PROC_CPT": a right to the boot table without that flag, at place 8, does not do; the root does
    ∷ script (by18 0x00030000 8 0 0x7F ∷ []) (four 0x000E0000 2 8 0) (negsuc 4)
    ∷ script [] (four 0x000E0000 2 0 0) (pos 0)
    -- "deleting the boot endpoint"
    ∷ script (freeze_place 5 ∷ ticks_then 8 []) (four 0x00110000 5 0 0) (negsuc 15)
    -- "−15 before the flag, after the kind"; option 0 blocks
    ∷ script [] (four 0x00130000 5 0 0) (negsuc 14)
    ∷ script [] (four 0x00130000 4 0 0) (negsuc 2)
    -- "A function number outside the range is −5, any other but 0 is −4"
    ∷ script [] (four 0x00140003 7 0 0) (negsuc 3)
    -- whole words where the table says P1 or P2: places, numbers, positions, options
    ∷ script [] (four 0x00100000 0x00010004 6 0x20000500) (negsuc 0)
    ∷ script [] (four 0x00100000 4 0x00010006 0x20000500) (negsuc 0)
    ∷ script [] (four 0x00090000 1 0x00010001 0) (negsuc 10)
    ∷ script [] (four 0x00130000 5 0x00010002 0) (negsuc 14)
    -- "Bits no call names are not read"
    ∷ script [] (four 0xFF940003 0xFFFF0000 7 9) (pos 0)
    ∷ []

-- what events leave; the rules keep the state well formed, so nothing is tested between
abbrev pub played : State → List Event → State
played st [] = st
played st (tick ∷ es) = played (ticked st) es
played st (call p w ∷ es) = played (after st (plan st p w)) es

abbrev pub answers : Script → Bool
answers s = same_answer (answer (plan (played s.first s.events) 18 s.words)) s.answered

abbrev pub every_script : List Script → Bool
every_script [] = true
every_script (s ∷ ss) = answers s & every_script ss
