-- "Well formed means": one test for each phrase, in document 01's order, then all of them. `Formed` in Formed.antt has the same as facts.
use Rattle.std.specs.Prelude.{Bool, false, not, true, ◌%◌, ◌+◌, ◌^◌, suc, zero, ℕ, eqb, leb, ltb, get_or, length}
use Rattle.state.specs.Layout.{lay}
use Rattle.state.specs.State.{Object, State, body, directory, endpoint, entries_in, free, obj_at, place_at, place_numbered, positions_in, process, shape_at, shape_of, table, with_clock}
use Rattle.words.specs.Fields.{slot}
use Rattle.words.specs.Rights.{all_flags, inside, is_root, kind_no, object_of, page_flags, subset}
use Rattle.words.specs.Sizes.{kernel_end, kernel_start, least_number_order, least_size_order, most_entries, most_number_order, most_order_sum, most_size_order, place_count, slot_count, slot_size}
use Rattle.words.specs.Tests.{◌&◌, all_below, sum_below}
use Rattle.rules.specs.Names.{None, Capability, Child, Directory, Empty, Endpoint, Frost, Frozen, Function, Geometry, Some, Kind, Memory, Origin, Page, Place, Position, Process, Slot, Table, Thawed}

-- every place of every table passes
unfoldable pub every_place : State → (Place → Bool) → Bool
every_place st p = all_below slot_count (λ s. all_below (entries_in st (slot s)) (λ e. p (place_at st (slot s) e)))

-- every object passes, with its first slot
unfoldable pub every_object : State → (Slot → Object → Bool) → Bool
every_object st p = all_below slot_count (λ s. p (slot s) (obj_at st (slot s)))

abbrev pub right : (Capability → Bool) → Place → Bool
right p None = true
right p (Some c) = p c

-- ---- "objects lie in kernel memory and don't overlap"
unfoldable pub apart : State → Bool
apart st = eqb (length st.slots) slot_count & lay 0 0 (slot 0) st.slots

-- ---- "each right, memory and function apart, names by its first slot an object of its kind that stands there"
-- the number of the kind of right that names an object; 0 for what none names
abbrev pub object_no : Object → ℕ
object_no free = 0
object_no (body h) = 0
object_no (table ps) = 1
object_no (directory g es) = 2
object_no (process t d) = 4
object_no (endpoint c b) = 5

unfoldable pub names : State → Kind → Bool
names st (Table o) = eqb (object_no (obj_at st o)) 1
names st (Directory o l h) = eqb (object_no (obj_at st o)) 2
names st (Memory l h) = true
names st (Process o) = eqb (object_no (obj_at st o)) 4
names st (Endpoint o) = eqb (object_no (obj_at st o)) 5
names st (Function l h) = true

-- ---- "each object, and the kinds memory and function, has exactly one root, with all its flags and whole range"
abbrev pub is_root_of : ℕ → Slot → Place → Bool
is_root_of k o None = false
is_root_of k o (Some c) = is_root c.origin & eqb (kind_no c.kind) k & eqb (object_of c.kind).0 o.0

abbrev pub one : Bool → ℕ
one true = 1
one false = 0

-- the number of roots of kind number k for the object at o
unfoldable pub roots_of : State → ℕ → Slot → ℕ
roots_of st k o = sum_below slot_count (λ s. sum_below (entries_in st (slot s)) (λ e. one (is_root_of k o (place_at st (slot s) e))))

unfoldable pub one_root : State → Slot → Object → Bool
one_root st s free = true
one_root st s (body h) = true
one_root st s (table ps) = eqb (roots_of st 1 s) 1
one_root st s (directory g es) = eqb (roots_of st 2 s) 1
one_root st s (process t d) = eqb (roots_of st 4 s) 1
one_root st s (endpoint c b) = eqb (roots_of st 5 s) 1

-- memory and function name no object: their kinds stand at slot 0
unfoldable pub rooted : State → Bool
rooted st = every_object st (one_root st) & eqb (roots_of st 3 (slot 0)) 1 & eqb (roots_of st 6 (slot 0)) 1

-- "whole range": "a directory's root ranges over exactly its positions"; "functions 0..65535, all memory"
unfoldable pub whole : State → Kind → Bool
whole st (Table o) = true
whole st (Directory o l h) = eqb l 0 & eqb (suc h) (positions_in st o)
whole st (Memory l h) = eqb l.0 kernel_start & eqb h.0 kernel_end
whole st (Process o) = true
whole st (Endpoint o) = true
whole st (Function l h) = eqb l 0 & eqb h 65535

-- ---- "a child has its parent's kind and object, flags and range inside the parent's, and its parent chain reaches a root"
abbrev pub parent_fits : Capability → Place → Bool
parent_fits c None = false
parent_fits c (Some p) = inside c.kind p.kind & subset c.flags p.flags

-- the chain from the place of number p comes to a root within n places; `at` is the place of a number
unfoldable pub reaches : (ℕ → Place) → ℕ → ℕ → Bool
reaches at zero p = false
reaches at (suc n) p = elim (at p) [ None ↦ false | Some c ↦ elim c.origin [ None ↦ true | Some q ↦ reaches at n q ] ]

unfoldable pub descends : State → Capability → Origin → Bool
descends st c None = eqb c.flags (all_flags c.kind) & whole st c.kind
descends st c (Some p) = parent_fits c (place_numbered st p) & reaches (place_numbered st) place_count p

-- ---- "a process names a live table and a live top directory"
unfoldable pub runs : State → Slot → Slot → Bool
runs st t d = eqb (object_no (obj_at st t)) 1 & (shape_at st d).top

-- ---- "a page's frame is a multiple of its size"
unfoldable pub framed : Geometry → ℕ → Bool
framed g f = eqb (f % 2 ^ g.size) 0

-- ---- "a child directory satisfies the construct rule": a directory that is not top, whose size order plus number order is the parent's size order
unfoldable pub hangs : Geometry → Object → Bool
hangs g o = eqb (object_no o) 2 & eqb ((shape_of o).size + (shape_of o).number) g.size & not (shape_of o).top

-- ---- "every field is in range"
-- "size order 6..31, number order 1..8, sum at most 32, start a multiple of 2^sum"
unfoldable pub geometric : Geometry → Bool
geometric g =
    leb least_size_order g.size & leb g.size most_size_order & leb least_number_order g.number & leb g.number most_number_order
    & leb (g.size + g.number) most_order_sum & eqb (g.start % 2 ^ (g.size + g.number)) 0

unfoldable pub position_ok : State → Geometry → Position → Bool
position_ok st g Empty = true
position_ok st g (Page f x) = framed g f & ltb f (2 ^ 32) & leb x page_flags
position_ok st g (Child o x) = hangs g (obj_at st o) & leb x page_flags

unfoldable pub object_ok : State → Slot → Object → Bool
object_ok st s free = true
object_ok st s (body h) = true
object_ok st s (table ps) = leb 1 (length ps) & leb (length ps) most_entries
object_ok st s (directory g es) = geometric g & ltb g.start (2 ^ 32) & eqb (length es) (2 ^ g.number) & all_below (length es) (λ i. position_ok st g (get_or es i Empty))
object_ok st s (process t d) = runs st t d
object_ok st s (endpoint c b) = ltb c.0 (2 ^ 32)

-- the ends of a range are positions of the directory; kernel addresses at a slot, of which the high one may be the end; function numbers.
-- An empty or inverted range is no fault here: "only delegation judges empty or inverted"
unfoldable pub ends_ok : State → Kind → Bool
ends_ok st (Table o) = true
ends_ok st (Directory o l h) = ltb l (positions_in st o) & ltb h (positions_in st o)
ends_ok st (Memory l h) = leb kernel_start l.0 & ltb l.0 kernel_end & eqb (l.0 % slot_size) 0 & leb kernel_start h.0 & leb h.0 kernel_end & eqb (h.0 % slot_size) 0
ends_ok st (Process o) = true
ends_ok st (Endpoint o) = true
ends_ok st (Function l h) = ltb l 65536 & ltb h 65536

abbrev pub stamp_ok : Frost → Bool
stamp_ok Thawed = true
stamp_ok (Frozen s) = ltb s (2 ^ 32)

-- ---- a right, an object, a state. "free and unused bytes are zero" is said of bytes: see Buffer
unfoldable pub right_ok : State → Capability → Bool
right_ok st c = names st c.kind & ends_ok st c.kind & leb c.flags (all_flags c.kind) & stamp_ok c.frost & descends st c c.origin

-- what is asked of the slots
unfoldable pub formed : State → Bool
formed st = apart st & every_place st (right (right_ok st)) & rooted st & every_object st (object_ok st)

-- the slots are judged with the clock at 0, since it plays no part in them
abbrev pub still : State → State
still st = with_clock st 0

unfoldable pub wf : State → Bool
wf st = formed (still st) & ltb st.clock (2 ^ 32)
