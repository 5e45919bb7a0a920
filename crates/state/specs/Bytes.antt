-- The byte layout, as docs/LAYOUT.md has it: the 17,472 bytes of a state.
use Rattle.std.specs.Prelude.{Bool, true, false, List, [], ◌∷◌, ◌++◌, ℕ, ◌+◌, ◌*◌, ◌-◌, ◌/◌, ◌%◌, length, replicate}
use Rattle.words.specs.Sizes.{slot_size}
use Rattle.words.specs.Rights.{kind_no, object_of, low_of, high_of, stamp_of}
use Rattle.state.specs.Names.{Frost, Thawed, Frozen, Origin, None, Some, Capability, Place, Position, Empty, Page, Child}
use Rattle.state.specs.State.{Object, free, body, table, directory, process, endpoint, State, size_of}

-- ---- words of four bytes, the lowest first
abbrev pub le32 : ℕ → List ℕ
le32 v = v % 256 ∷ v / 256 % 256 ∷ v / 256 / 256 % 256 ∷ v / 256 / 256 / 256 % 256 ∷ []

abbrev pub words_bytes : List ℕ → List ℕ
words_bytes [] = []
words_bytes (w ∷ ws) = le32 w ++ words_bytes ws

abbrev pub mark : Bool → ℕ
mark true = 1
mark false = 0

-- f of each element, one after the other
unfoldable pub each : {A : Type 0} → (A → List ℕ) → List A → List ℕ
each f [] = []
each f (x ∷ xs) = f x ++ each f xs

-- ---- an entry of a table, eight words: kind, flags, low, high, object, frozen mark, stamp, parent
abbrev pub frozen_no : Frost → ℕ
frozen_no Thawed = 0
frozen_no (Frozen s) = 1

-- 0 for a root, n + 1 under the place of number n
abbrev pub parent_no : Origin → ℕ
parent_no None = 0
parent_no (Some n) = n + 1

abbrev pub right_words : Capability → List ℕ
right_words c =
    kind_no c.kind ∷ c.flags ∷ low_of c.kind ∷ high_of c.kind ∷ (object_of c.kind).0
    ∷ frozen_no c.frost ∷ stamp_of c.frost ∷ parent_no c.origin ∷ []

abbrev pub place_words : Place → List ℕ
place_words None = 0 ∷ 0 ∷ 0 ∷ 0 ∷ 0 ∷ 0 ∷ 0 ∷ 0 ∷ []
place_words (Some c) = right_words c

unfoldable pub place_bytes : Place → List ℕ
place_bytes p = words_bytes (place_words p)

-- ---- a position of a directory, eight bytes: what, flags, two zeros, and the frame or the child's slot
abbrev pub position_bytes : Position → List ℕ
position_bytes Empty = 0 ∷ 0 ∷ 0 ∷ 0 ∷ 0 ∷ 0 ∷ 0 ∷ 0 ∷ []
position_bytes (Page f x) = 1 ∷ x ∷ 0 ∷ 0 ∷ le32 f
position_bytes (Child o x) = 2 ∷ x ∷ 0 ∷ 0 ∷ le32 o.0

-- ---- an object's memory: its own bytes, and zeros up to the end of its last slot
abbrev pub own_bytes : Object → List ℕ
own_bytes free = []
own_bytes (body h) = []
own_bytes (table ps) = each place_bytes ps
-- the 32-byte header: size order, top mark, start; the number order stands in the note
own_bytes (directory g es) = words_bytes (g.size ∷ mark g.top ∷ g.start ∷ 0 ∷ 0 ∷ 0 ∷ 0 ∷ 0 ∷ []) ++ each position_bytes es
own_bytes (process t d) = words_bytes (t.0 ∷ d.0 ∷ [])
own_bytes (endpoint c b) = words_bytes (c.0 ∷ mark b ∷ [])

abbrev pub memory_bytes : Object → List ℕ
memory_bytes o = own_bytes o ++ replicate (slot_size * size_of o - length (own_bytes o)) 0

-- ---- the bookkeeping, a note of four bytes a slot: tag, argument, two zeros
abbrev pub table_tag : ℕ
table_tag = 2

abbrev pub directory_tag : ℕ
directory_tag = 3

abbrev pub process_tag : ℕ
process_tag = 4

abbrev pub endpoint_tag : ℕ
endpoint_tag = 5

abbrev pub tag_of : Object → ℕ
tag_of free = 0
tag_of (body h) = 1
tag_of (table ps) = table_tag
tag_of (directory g es) = directory_tag
tag_of (process t d) = process_tag
tag_of (endpoint c b) = endpoint_tag

-- the first slot, the entries or the number order
abbrev pub argument_of : Object → ℕ
argument_of free = 0
argument_of (body h) = h.0
argument_of (table ps) = length ps
argument_of (directory g es) = g.number
argument_of (process t d) = 0
argument_of (endpoint c b) = 0

abbrev pub note_of : ℕ → ℕ → List ℕ
note_of tag argument = tag ∷ argument ∷ 0 ∷ 0 ∷ []

abbrev pub note_bytes : Object → List ℕ
note_bytes o = note_of (tag_of o) (argument_of o)

-- ---- "16,384 of kernel memory, 1,024 of slot bookkeeping, 64 for the clock and spare"
unfoldable pub bytes : State → List ℕ
bytes st = each memory_bytes st.slots ++ (each note_bytes st.slots ++ (le32 st.clock ++ replicate 60 0))
