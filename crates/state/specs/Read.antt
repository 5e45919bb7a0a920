-- The state that a buffer holds. Reading is total: what is no encoding is read as something whose bytes differ,
-- so that "every field is in range; free and unused bytes are zero" includes `bytes (read b) ≡ b`.
use Rattle.std.specs.Prelude.{Bool, true, false, List, [], ◌∷◌, ℕ, zero, suc, ◌+◌, ◌*◌, ◌-◌, ◌^◌, eqb, leb, get_or, drop}
use Rattle.words.specs.Sizes.{slot_size, slot_count, memory_length, clock_offset, entry_size, header_size, most_number_order, position_size}
use Rattle.words.specs.Tests.{choose}
use Rattle.words.specs.Fields.{slot, address, count}
use Rattle.state.specs.Names.{Slot, Kind, Table, Directory, Memory, Process, Endpoint, Function, Frost, Thawed, Frozen, Origin, None, Some, Geometry, Place, Position, Empty, Page, Child}
use Rattle.state.specs.State.{Object, free, body, table, directory, process, endpoint, State}

-- four bytes, the lowest first
abbrev pub joined : ℕ → ℕ → ℕ → ℕ → ℕ
joined a b c d = a + b * 256 + c * 65536 + d * 16777216

-- the word at a byte of a list; what lies past the end counts as 0
unfoldable pub word_at : List ℕ → ℕ → ℕ
word_at l at = joined (get_or l at 0) (get_or l (at + 1) 0) (get_or l (at + 2) 0) (get_or l (at + 3) 0)

abbrev pub marked : ℕ → Bool
marked zero = false
marked (suc n) = true

-- f 0, f 1, .., n of them
unfoldable pub listed : {A : Type 0} → ℕ → (ℕ → A) → List A
listed zero f = []
listed (suc n) f = f 0 ∷ listed n (λ k. f (suc k))

-- ---- an entry of a table
unfoldable pub frost_from : ℕ → ℕ → Frost
frost_from m s = choose (eqb m 0) Thawed (Frozen s)

unfoldable pub origin_from : ℕ → Origin
origin_from w = choose (eqb w 0) None (Some (w - 1))

abbrev pub held : Kind → ℕ → Frost → Origin → Place
held k f x r = Some (record { kind = k; flags = f; frost = x; origin = r })

-- by the kind's number
unfoldable pub place_from : ℕ → Slot → ℕ → ℕ → ℕ → Frost → Origin → Place
place_from t o l h f x r =
    choose (eqb t 1) (held (Table o) f x r)
    (choose (eqb t 2) (held (Directory o l h) f x r)
    (choose (eqb t 3) (held (Memory (address l) (address h)) f x r)
    (choose (eqb t 4) (held (Process o) f x r)
    (choose (eqb t 5) (held (Endpoint o) f x r)
    (choose (eqb t 6) (held (Function l h) f x r)
    None)))))

-- where the fields of an entry stand behind its kind
abbrev pub flags_at : ℕ
flags_at = 4

abbrev pub low_at : ℕ
low_at = 8

abbrev pub high_at : ℕ
high_at = 12

abbrev pub object_at : ℕ
object_at = 16

abbrev pub frozen_at : ℕ
frozen_at = 20

abbrev pub stamp_at : ℕ
stamp_at = 24

abbrev pub parent_at : ℕ
parent_at = 28

-- the entry whose bytes start at a byte of a list
unfoldable pub place_of : List ℕ → ℕ → Place
place_of l at =
    place_from (word_at l at) (slot (get_or l (at + object_at) 0)) (word_at l (at + low_at)) (word_at l (at + high_at)) (word_at l (at + flags_at))
    (frost_from (word_at l (at + frozen_at)) (word_at l (at + stamp_at))) (origin_from (word_at l (at + parent_at)))

-- ---- a position of a directory
unfoldable pub position_from : ℕ → ℕ → ℕ → Slot → Position
position_from t x f o = choose (eqb t 1) (Page f x) (choose (eqb t 2) (Child o x) Empty)

unfoldable pub position_of : List ℕ → ℕ → Position
position_of l at = position_from (get_or l at 0) (get_or l (at + 1) 0) (word_at l (at + 4)) (slot (get_or l (at + 4) 0))

-- "2^k entries, k from 1 to 8"; none where the number order is above 8
unfoldable pub positions_for : ℕ → ℕ
positions_for k = choose (leb k most_number_order) (2 ^ k) 0

-- ---- an object, from its note and from its memory
abbrev pub shape_from : ℕ → List ℕ → Geometry
shape_from k l = record { size = word_at l 0; number = k; top = marked (word_at l 4); start = word_at l 8 }

unfoldable pub object_from : ℕ → ℕ → List ℕ → Object
object_from t a l =
    choose (eqb t 1) (body (slot a))
    (choose (eqb t 2) (table (listed a (λ i. place_of l (entry_size * i))))
    (choose (eqb t 3) (directory (shape_from a l) (listed (positions_for a) (λ i. position_of l (header_size + position_size * i))))
    (choose (eqb t 4) (process (slot (get_or l 0 0)) (slot (get_or l 4 0)))
    (choose (eqb t 5) (endpoint (count (word_at l 0)) (marked (word_at l 4)))
    free))))

-- slot k: its note, and its memory from its first byte on
unfoldable pub slot_from : List ℕ → ℕ → Object
slot_from b k = object_from (get_or b (memory_length + 4 * k) 0) (get_or b (memory_length + 1 + 4 * k) 0) (drop (slot_size * k) b)

unfoldable pub read : List ℕ → State
read b = record { slots = listed slot_count (slot_from b); clock = word_at b clock_offset }
