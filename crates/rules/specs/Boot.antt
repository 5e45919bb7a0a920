-- "Boot": the first state.
use Rattle.std.specs.Prelude.{true, ◌++◌, List, [], ◌∷◌, ◌*◌, ◌^◌, suc, zero, ℕ, replicate}
use Rattle.state.specs.State.{Object, State, body, directory, endpoint, free, process, table}
use Rattle.words.specs.Fields.{address, count, slot}
use Rattle.words.specs.Rights.{page_flags, root_right}
use Rattle.words.specs.Sizes.{kernel_end, kernel_start}
use Rattle.rules.specs.Names.{None, Directory, Endpoint, Function, Geometry, Some, Memory, Page, Place, Position, Process, Table}

-- "Table entries 0..5: roots of table, directory, process, functions 0..65535, all memory, endpoint"; "a 32-entry table"
abbrev pub boot_places : List Place
boot_places =
    Some (root_right (Table (slot 0)))
    ∷ Some (root_right (Directory (slot 16) 0 7))
    ∷ Some (root_right (Process (slot 18)))
    ∷ Some (root_right (Function 0 65535))
    ∷ Some (root_right (Memory (address kernel_start) (address kernel_end)))
    ∷ Some (root_right (Endpoint (slot 19)))
    ∷ replicate 26 None

-- "size order 29, number order 3, start 0"
abbrev pub boot_shape : Geometry
boot_shape = record { size = 29; number = 3; top = true; start = 0 }

-- "position i holding frame i·2^29 with all page flags": from position i on, n of them
abbrev pub boot_pages : (i n : ℕ) → List Position
boot_pages i zero = []
boot_pages i (suc n) = Page (i * 2 ^ 29) page_flags ∷ boot_pages (suc i) n

-- "a 32-entry table at slot 0; a top directory at slot 16 ..; a process at 18 with both; an endpoint at 19"
abbrev pub boot_slots : List Object
boot_slots =
    table boot_places ∷ (replicate 15 (body (slot 0))
    ++ (directory boot_shape (boot_pages 0 8) ∷ body (slot 16)
    ∷ process (slot 0) (slot 16)
    ∷ endpoint (count 0) true
    ∷ replicate 236 free))

-- "Clock 0."
abbrev pub boot : State
boot = record { slots = boot_slots; clock = 0 }
