-- "free and unused bytes are zero": a buffer is the bytes of the state that it is read as where each piece of it, read and
-- written again, is what stands there.
use Rattle.std.specs.Prelude.{Bool, false, true, List, [], ◌∷◌, ◌*◌, ◌+◌, ℕ, eqb, drop, get_or}
use Rattle.state.specs.Bytes.{memory_bytes, note_bytes, place_bytes, position_bytes}
use Rattle.state.specs.Read.{listed, marked, place_of, position_of, read, shape_from, word_at}
use Rattle.state.specs.State.{Object, directory, endpoint, obj_at, process, table}
use Rattle.words.specs.Fields.{count, slot}
use Rattle.words.specs.Sizes.{entry_size, header_size, memory_length, position_size, slot_size}
use Rattle.words.specs.Tests.{◌&◌}
use Rattle.audit_bytes.specs.Names.{Slot}

-- l starts with v
unfoldable pub starts : List ℕ → List ℕ → Bool
starts [] l = true
starts (x ∷ v) [] = false
starts (x ∷ v) (y ∷ l) = eqb x y & starts v l

-- the entry and the position that start at a byte of a part
abbrev pub place_stands : List ℕ → ℕ → Bool
place_stands p at = starts (place_bytes (place_of p at)) (drop at p)

abbrev pub position_stands : List ℕ → ℕ → Bool
position_stands p at = starts (position_bytes (position_of p at)) (drop at p)

-- ---- an object in the part that its slots are
abbrev pub table_in : List ℕ → ℕ → Object
table_in p n = table (listed n (λ i. place_of p (entry_size * i)))

-- the number order stands in the note, and no byte of the part depends on it
abbrev pub directory_in : List ℕ → ℕ → Object
directory_in p n = directory (shape_from 0 p) (listed n (λ i. position_of p (header_size + position_size * i)))

abbrev pub process_in : List ℕ → Object
process_in p = process (slot (get_or p 0 0)) (slot (get_or p 4 0))

abbrev pub endpoint_in : List ℕ → Object
endpoint_in p = endpoint (count (word_at p 0)) (marked (word_at p 4))

-- ---- a slot of the buffer: its memory, as far as the object that stands there goes, and its note
abbrev pub object_stands : List ℕ → Slot → Bool
object_stands b k = starts (memory_bytes (obj_at (read b) k)) (drop (slot_size * k.0) b)

abbrev pub note_stands : List ℕ → Slot → Bool
note_stands b k = starts (note_bytes (obj_at (read b) k)) (drop (memory_length + 4 * k.0) b)
