-- Kinds, flags and ranges of a right.
use Rattle.std.specs.Prelude.{Bool, true, false, ℕ, ◌^◌, ◌/◌, ◌%◌, eqb, ltb, leb}
use Rattle.std.specs.Int.Bits.{bit_and}
use Rattle.words.specs.Names.{Slot, Kind, Table, Directory, Memory, Process, Endpoint, Function, Frost, Thawed, Frozen, Origin, None, Some, Capability, Place}
use Rattle.words.specs.Tests.{◌&◌}
use Rattle.words.specs.Fields.{slot}

-- ---- the parts of a kind; 0 where it has none
abbrev pub kind_no : Kind → ℕ
kind_no (Table o) = 1
kind_no (Directory o l h) = 2
kind_no (Memory l h) = 3
kind_no (Process o) = 4
kind_no (Endpoint o) = 5
kind_no (Function l h) = 6

abbrev pub object_of : Kind → Slot
object_of (Table o) = o
object_of (Directory o l h) = o
object_of (Memory l h) = slot 0
object_of (Process o) = o
object_of (Endpoint o) = o
object_of (Function l h) = slot 0

abbrev pub low_of : Kind → ℕ
low_of (Table o) = 0
low_of (Directory o l h) = l
low_of (Memory l h) = l.0
low_of (Process o) = 0
low_of (Endpoint o) = 0
low_of (Function l h) = l

abbrev pub high_of : Kind → ℕ
high_of (Table o) = 0
high_of (Directory o l h) = h
high_of (Memory l h) = h.0
high_of (Process o) = 0
high_of (Endpoint o) = 0
high_of (Function l h) = h

-- ---- "Flags, bit 0 first"
-- Table: CRT, DEL, FRZ, ADD_SRC, ADD_DST, REM, PROC_CRT, PROC_CPT
abbrev pub t_crt : ℕ
t_crt = 0

abbrev pub t_del : ℕ
t_del = 1

abbrev pub t_frz : ℕ
t_frz = 2

abbrev pub t_add_src : ℕ
t_add_src = 3

abbrev pub t_add_dst : ℕ
t_add_dst = 4

abbrev pub t_rem : ℕ
t_rem = 5

abbrev pub t_proc_crt : ℕ
t_proc_crt = 6

abbrev pub t_proc_cpt : ℕ
t_proc_cpt = 7

-- Directory: ADD_SRC, ADD_DST, REM, CON_CHILD, CON_PARENT, DES, PROC_CRT, PROC_PGT
abbrev pub d_add_src : ℕ
d_add_src = 0

abbrev pub d_add_dst : ℕ
d_add_dst = 1

abbrev pub d_rem : ℕ
d_rem = 2

abbrev pub d_con_child : ℕ
d_con_child = 3

abbrev pub d_con_parent : ℕ
d_con_parent = 4

abbrev pub d_des : ℕ
d_des = 5

abbrev pub d_proc_crt : ℕ
d_proc_crt = 6

abbrev pub d_proc_pgt : ℕ
d_proc_pgt = 7

-- Memory: CAPTBL, PGTBL, PROC, THD, SIG, INV
abbrev pub m_captbl : ℕ
m_captbl = 0

abbrev pub m_pgtbl : ℕ
m_pgtbl = 1

abbrev pub m_proc : ℕ
m_proc = 2

abbrev pub m_sig : ℕ
m_sig = 4

-- Process: CPT, PGT, THD
abbrev pub p_cpt : ℕ
p_cpt = 0

abbrev pub p_pgt : ℕ
p_pgt = 1

-- Endpoint: SND, RCV_BS, RCV_BM, RCV_NS, RCV_NM, SCHED
abbrev pub e_snd : ℕ
e_snd = 0

abbrev pub e_rcv_ns : ℕ
e_rcv_ns = 3

abbrev pub e_rcv_nm : ℕ
e_rcv_nm = 4

-- "every flag of its kind"; "a function has none". Pages have six flags too
abbrev pub all_flags : Kind → ℕ
all_flags (Table o) = 255
all_flags (Directory o l h) = 255
all_flags (Memory l h) = 63
all_flags (Process o) = 7
all_flags (Endpoint o) = 63
all_flags (Function l h) = 0

abbrev pub page_flags : ℕ
page_flags = 63

-- bit i of x is set
unfoldable pub has : ℕ → ℕ → Bool
has x i = eqb (x / 2 ^ i % 2) 1

-- every flag of a is a flag of b
unfoldable pub subset : ℕ → ℕ → Bool
subset a b = eqb (bit_and a b) a

-- "New flags (a function has none) are non-empty"
abbrev pub some_flag : Kind → ℕ → Bool
some_flag (Table o) x = leb 1 x
some_flag (Directory o l h) x = leb 1 x
some_flag (Memory l h) x = leb 1 x
some_flag (Process o) x = leb 1 x
some_flag (Endpoint o) x = leb 1 x
some_flag (Function l h) x = true

-- ---- ranges. "both included" for directory and function; "the upper is excluded" for memory
unfoldable pub some_range : Kind → Bool
some_range (Table o) = true
some_range (Directory o l h) = leb l h
some_range (Memory l h) = ltb l.0 h.0
some_range (Process o) = true
some_range (Endpoint o) = true
some_range (Function l h) = leb l h

-- "its parent's kind and object, ... range inside the parent's"
unfoldable pub inside : Kind → Kind → Bool
inside k p = eqb (kind_no k) (kind_no p) & eqb (object_of k).0 (object_of p).0 & leb (low_of p) (low_of k) & leb (high_of k) (high_of p)

-- "Creation makes the one root of an object, with every flag of its kind"
abbrev pub root_right : Kind → Capability
root_right k = record { kind = k; flags = all_flags k; frost = Thawed; origin = None }

-- ---- the marks of a right
abbrev pub is_root : Origin → Bool
is_root None = true
is_root (Some p) = false

abbrev pub is_thawed : Frost → Bool
is_thawed Thawed = true
is_thawed (Frozen s) = false

abbrev pub stamp_of : Frost → ℕ
stamp_of Thawed = 0
stamp_of (Frozen s) = s

-- the child's parent is the place of number p
abbrev pub is_under : ℕ → Origin → Bool
is_under p None = false
is_under p (Some q) = eqb q p

abbrev pub is_blank : Place → Bool
is_blank None = true
is_blank (Some c) = false

-- a blank place is not frozen
abbrev pub place_thawed : Place → Bool
place_thawed None = true
place_thawed (Some c) = is_thawed c.frost
