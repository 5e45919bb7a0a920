-- A buffer with a new object in it: its notes, its own slots, and its root in the place to fill.
use Rattle.std.specs.Prelude.{List, ◌++◌, ℕ, ◌+◌, ◌*◌, ◌-◌, replicate}
use Rattle.words.specs.Sizes.{slot_size, memory_length, entry_size}
use Rattle.words.specs.Rights.{root_right}
use Rattle.state.specs.State.{body, splice}
use Rattle.state.specs.Bytes.{each, note_bytes, note_of, place_bytes, words_bytes}
use Rattle.committing.specs.Names.{Some, Kind, Slot, Spot}
use Rattle.committing.specs.declared.creations.Beginning.{Beginning}

abbrev pub noted : List ℕ → Slot → Beginning → List ℕ
noted l s n = splice (memory_length + 4 * s.0) (note_of n.tag n.argument ++ each note_bytes (replicate (n.slots - 1) (body s))) l

-- three words, and zeros up to the end of its last slot
abbrev pub filled : List ℕ → Slot → Beginning → List ℕ
filled l s n = splice (slot_size * s.0) (words_bytes n.first ++ replicate (slot_size * n.slots - 12) 0) l

abbrev pub rooted : List ℕ → Spot → Kind → List ℕ
rooted l p k = splice (slot_size * p.table.0 + entry_size * p.entry) (place_bytes (Some (root_right k))) l

abbrev pub raised : List ℕ → Spot → Slot → Kind → Beginning → List ℕ
raised l p s k n = rooted (filled (noted l s n) s n) p k
