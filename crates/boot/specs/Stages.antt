-- The stages in which the boot state is written: objects, rights, pages.
use Rattle.std.specs.Prelude.{◌++◌, List, [], ◌∷◌, ◌*◌, ◌+◌, ◌-◌, ◌^◌, suc, zero, ℕ, get_or, replicate}
use Rattle.state.specs.Bytes.{each, note_bytes, note_of, place_bytes, position_bytes, words_bytes}
use Rattle.state.specs.State.{body, splice}
use Rattle.words.specs.Fields.{address, slot}
use Rattle.words.specs.Rights.{page_flags, root_right}
use Rattle.words.specs.Sizes.{entry_size, header_size, kernel_end, kernel_start, memory_length, position_size, slot_size}
use Rattle.boot.specs.Names.{Directory, Endpoint, Function, Some, Kind, Memory, Page, Position, Process, Table}

-- n notes and n slots of a new object, as the writers leave them
abbrev pub noted : ℕ → ℕ → ℕ → ℕ → List ℕ → List ℕ
noted k n tag argument l = splice (memory_length + 4 * k) (note_of tag argument ++ each note_bytes (replicate (n - 1) (body (slot k)))) l

abbrev pub begun : ℕ → ℕ → ℕ → ℕ → ℕ → List ℕ → List ℕ
begun k n a b c l = splice (slot_size * k) (words_bytes (a ∷ b ∷ c ∷ []) ++ replicate (slot_size * n - 12) 0) l

unfoldable pub with_objects : List ℕ → List ℕ
with_objects l = begun 19 1 0 1 0 (begun 18 1 0 16 0 (begun 16 2 29 1 0 (noted 19 1 5 0 (noted 18 1 4 0 (noted 16 2 3 3 (noted 0 16 2 32 l))))))

abbrev pub entered : ℕ → Kind → List ℕ → List ℕ
entered e k l = splice (slot_size * 0 + entry_size * e) (place_bytes (Some (root_right k))) l

abbrev pub boot_kinds : List Kind
boot_kinds =
    Table (slot 0) ∷ Directory (slot 16) 0 7 ∷ Process (slot 18) ∷ Function 0 65535 ∷ Memory (address kernel_start) (address kernel_end)
    ∷ Endpoint (slot 19) ∷ []

-- the first n of them entered
unfoldable pub with_roots : ℕ → List ℕ → List ℕ
with_roots zero l = l
with_roots (suc n) l = entered n (get_or boot_kinds n (Table (slot 0))) (with_roots n l)

unfoldable pub with_rights : List ℕ → List ℕ
with_rights l = with_roots 6 l

-- "number order 3": 2^3 positions
abbrev pub boot_positions : ℕ
boot_positions = 8

-- "position i holding frame i·2^29 with all page flags"
abbrev pub boot_page : ℕ → Position
boot_page i = Page (i * 2 ^ 29) page_flags

unfoldable pub with_pages : ℕ → List ℕ → List ℕ
with_pages zero l = l
with_pages (suc n) l = splice (slot_size * 16 + header_size + position_size * n) (position_bytes (boot_page n)) (with_pages n l)
