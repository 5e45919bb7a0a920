-- The twenty calls in the order of document 01's table: each is its arguments from left to right, then its own steps.
use Rattle.std.specs.Prelude.{Bool, false, not, true, List, [], ◌∷◌, ◌%◌, ◌*◌, ◌+◌, ◌-◌, ◌/◌, ◌^◌, min, ℕ, eqb, leb, ltb, get_or}
use Rattle.state.specs.State.{Object, State, body, boot_mark, count_of, directory, endpoint, entries_in, free, obj_at, place_at, place_number, position_at, positions_in, process, shape_at, table}
use Rattle.words.specs.Fields.{C, D0, D1, Q0, Q1, address, call_number, capability_number, count, number_order, slot}
use Rattle.words.specs.Grants.{unpack}
use Rattle.words.specs.Rights.{d_add_dst, d_add_src, d_con_child, d_con_parent, d_des, d_proc_crt, d_proc_pgt, d_rem, e_snd, has, inside, is_blank, m_captbl, m_pgtbl, m_proc, m_sig, p_cpt, p_pgt, some_flag, some_range, subset, t_add_dst, t_add_src, t_crt, t_del, t_frz, t_proc_cpt, t_proc_crt, t_rem}
use Rattle.words.specs.Sizes.{entry_size, header_size, most_entries, position_size, slot_count, slots_for}
use Rattle.words.specs.Tests.{◌&◌, all_below, any_below, choose, ◌or◌}
use Rattle.words.specs.Try.{◌>>◌, ◌>>=◌, Try, need, Err, Ok}
use Rattle.rules.specs.Addresses.{address_arg}
use Rattle.rules.specs.Names.{Action, Answer, BadCall, BadCaller, CapExist, CapFlag, CapNull, CapRange, Capability, ChangeDirectory, ChangeTable, Child, CreateDirectory, CreateEndpoint, CreateProcess, CreateTable, Delete, Directory, Empty, Endpoint, Fill, Frame, Freeze, Function, Geometry, Grant, Kind, Memory, Page, PgtAddr, PgtHw, PgtMap, PgtPerm, Position, Process, Refusal, Remove, SetCount, SetPosition, SivAct, SivConflict, SivFull, Slot, Span, Table, Thawed, Some, Words}
use Rattle.rules.specs.Numbers.{as_directory, as_endpoint, as_function, as_process, as_table, directory_arg, endpoint_arg, lookup, memory_arg, process_arg, table_arg, top_arg}
use Rattle.rules.specs.Places.{spot, thawed_at, to_delete, to_fill, to_remove}
use Rattle.rules.specs.WellFormed.{geometric}

-- st: the state; t: the caller's table; w: the words. A line of a call is an argument; what it gives is named on the left

-- ---- 1 create table: C table CRT; P1.D1 memory CAPTBL; P1.D0 place; P3 entries; P2 address
unfoldable pub create_table : State → Slot → Words → Try Action
create_table st t w = do
  c ← table_arg st t (C w) t_crt
  m ← memory_arg st t (D1 w.p1) m_captbl
  p ← to_fill st c (D0 w.p1)
  -- "entries not 1..64"
  need (leb 1 w.p3 & leb w.p3 most_entries) CapRange
  a ← address_arg st m (address w.p2) (slots_for (entry_size * w.p3))
  Ok (CreateTable p a w.p3)

-- ---- 2 delete table: C table DEL; P1 place. "then EXIST (table)": "table to delete not empty"
unfoldable pub is_empty_table : State → Slot → Bool
is_empty_table st o = all_below (entries_in st o) (λ e. is_blank (place_at st o e))

unfoldable pub delete_table : State → Slot → Words → Try Action
delete_table st t w = do
  c ← table_arg st t (C w) t_del
  o ← to_delete as_table st c w.p1
  need (is_empty_table st o) CapExist
  Ok (Delete (spot c w.p1) o)

-- ---- 3 delegate: P1.D1 table ADD_DST; P2.D1 table ADD_SRC; P1.D0 place to; P2.D0 place from; P3 flags
-- the kind and the flags that the words ask for, of a right of the kind
abbrev pub grant_of : Words → Grant
grant_of w = unpack (record { nc = w.nc; p3 = w.p3 })

abbrev pub asked_kind : Kind → Words → Kind
asked_kind (Table o) w = Table o
-- "then lowest position in bits 19..8, highest in 31..20"
asked_kind (Directory o l h) w = Directory o (w.p3 / 256 % 4096) (w.p3 / 1048576)
asked_kind (Memory l h) w = Memory (grant_of w).lower (grant_of w).upper
asked_kind (Process o) w = Process o
asked_kind (Endpoint o) w = Endpoint o
-- "lowest number in bits 15..0, highest in 31..16"
asked_kind (Function l h) w = Function (D0 w.p3) (D1 w.p3)

abbrev pub asked_flags : Kind → Words → ℕ
asked_flags (Table o) w = w.p3
asked_flags (Directory o l h) w = w.p3 % 256
asked_flags (Memory l h) w = (grant_of w).flags
asked_flags (Process o) w = w.p3
asked_flags (Endpoint o) w = w.p3
asked_flags (Function l h) w = 0

-- "new flags are non-empty and a subset, the range non-empty and inside, else −5"
unfoldable pub granted : Capability → ℕ → Words → Try Capability
granted c p w = do
  need (some_flag c.kind (asked_flags c.kind w) & subset (asked_flags c.kind w) c.flags) CapFlag
  need (some_range (asked_kind c.kind w) & inside (asked_kind c.kind w) c.kind) CapFlag
  Ok (record { kind = asked_kind c.kind w; flags = asked_flags c.kind w; frost = Thawed; origin = Some p })

unfoldable pub delegate : State → Slot → Words → Try Action
delegate st t w = do
  d ← table_arg st t (D1 w.p1) t_add_dst
  s ← table_arg st t (D1 w.p2) t_add_src
  p ← to_fill st d (D0 w.p1)
  c ← thawed_at st s (D0 w.p2)
  g ← granted c (place_number (spot s (D0 w.p2))) w
  Ok (Fill p g)

-- ---- 4 freeze: C table FRZ; P1 place
unfoldable pub freeze : State → Slot → Words → Try Action
freeze st t w = do
  c ← table_arg st t (C w) t_frz
  thawed_at st c w.p1
  Ok (Freeze (spot c w.p1))

-- ---- 5 remove: C table REM; P1 place
unfoldable pub remove : State → Slot → Words → Try Action
remove st t w = do
  c ← table_arg st t (C w) t_rem
  p ← to_remove st c w.p1
  Ok (Remove p)

-- ---- 6 create directory: C table CRT; P1.D1 memory PGTBL; Q1 place; Q0 size order, N[15:8] number order, P3 start with top mark in bit 0; P2 address
abbrev pub shape_asked : Words → Geometry
shape_asked w = record { size = Q0 w; number = number_order w; top = has w.p3 0; start = w.p3 / 2 * 2 }

unfoldable pub create_directory : State → Slot → Words → Try Action
create_directory st t w = do
  c ← table_arg st t (C w) t_crt
  m ← memory_arg st t (D1 w.p1) m_pgtbl
  p ← to_fill st c (Q1 w)
  -- "size order 6..31, number order 1..8, sum at most 32, start a multiple of 2^sum; else PGT_HW"
  need (geometric (shape_asked w)) PgtHw
  a ← address_arg st m (address w.p2) (slots_for (header_size + position_size * 2 ^ (shape_asked w).number))
  Ok (CreateDirectory p a (shape_asked w))

-- ---- 7 delete directory: C table DEL; P1 place. "PGT_HW (directory has a child or is one)"
abbrev pub is_child : Position → Bool
is_child Empty = false
is_child (Page f x) = false
is_child (Child o x) = true

abbrev pub is_child_at : Slot → Position → Bool
is_child_at d Empty = false
is_child_at d (Page f x) = false
is_child_at d (Child o x) = eqb o.0 d.0

unfoldable pub has_child_directory : State → Slot → Bool
has_child_directory st d = any_below (positions_in st d) (λ i. is_child (position_at st d i))

unfoldable pub hangs_somewhere : State → Slot → Bool
hangs_somewhere st d = any_below slot_count (λ s. any_below (positions_in st (slot s)) (λ i. is_child_at d (position_at st (slot s) i)))

unfoldable pub as_directory_object : Kind → Try Slot
as_directory_object k = do
  d ← as_directory k
  Ok d.object

unfoldable pub delete_directory : State → Slot → Words → Try Action
delete_directory st t w = do
  c ← table_arg st t (C w) t_del
  o ← to_delete as_directory_object st c w.p1
  need (not (has_child_directory st o)) PgtHw
  need (not (hangs_somewhere st o)) PgtHw
  Ok (Delete (spot c w.p1) o)

-- ---- 8 map page: P1.D1 directory ADD_DST; P2.D1 directory ADD_SRC; P1.D0, P2.D0 positions; P3.D0 index; P3.D1 page flags
abbrev pub in_span : Span → ℕ → Bool
in_span d i = leb d.low i & leb i d.high

abbrev pub as_page : Refusal → Position → Try Frame
as_page r Empty = Err r
as_page r (Page f x) = Ok (record { frame = f; flags = x })
as_page r (Child o x) = Err r

abbrev pub is_empty : Position → Bool
is_empty Empty = true
is_empty (Page f x) = false
is_empty (Child o x) = false

abbrev pub size_at : State → Span → ℕ
size_at st d = (shape_at st d.object).size

unfoldable pub map_page : State → Slot → Words → Try Action
map_page st t w = do
  d ← directory_arg st t (D1 w.p1) d_add_dst
  s ← directory_arg st t (D1 w.p2) d_add_src
  -- "PGT_ADDR if the target's size order exceeds the source's, a position is past the end, or index ≥ 2^difference"
  need (leb (size_at st d) (size_at st s)) PgtAddr
  need (ltb (D0 w.p1) (positions_in st d.object) & ltb (D0 w.p2) (positions_in st s.object)) PgtAddr
  need (ltb (D0 w.p3) (2 ^ (size_at st s - size_at st d))) PgtAddr
  -- "then ranges, target first (−5)"
  need (in_span d (D0 w.p1)) CapFlag
  need (in_span s (D0 w.p2)) CapFlag
  -- "PGT_HW if the source holds no page; PGT_MAP if the target is filled; PGT_PERM"
  f ← as_page PgtHw (position_at st s.object (D0 w.p2))
  need (is_empty (position_at st d.object (D0 w.p1))) PgtMap
  need (subset (D1 w.p3) f.flags) PgtPerm
  -- "Frame = source frame + index·2^(target order)"
  Ok (SetPosition d.object (D0 w.p1) (Page (f.frame + D0 w.p3 * 2 ^ size_at st d) (D1 w.p3)))

-- ---- 9 remove page: P1 directory REM; P2 position. "PGT_ADDR, range, PGT_MAP unless a page ... is there"
unfoldable pub remove_page : State → Slot → Words → Try Action
remove_page st t w = do
  d ← directory_arg st t w.p1 d_rem
  need (ltb w.p2 (positions_in st d.object)) PgtAddr
  need (in_span d w.p2) CapFlag
  as_page PgtMap (position_at st d.object w.p2)
  Ok (SetPosition d.object w.p2 Empty)

-- ---- 10 construct: P1.D1 parent CON_PARENT; P1.D0 child CON_CHILD; P2 position; P3[5:0] page flags
unfoldable pub construct : State → Slot → Words → Try Action
construct st t w = do
  p ← directory_arg st t (D1 w.p1) d_con_parent
  c ← directory_arg st t (D0 w.p1) d_con_child
  -- "PGT_ADDR if the position is past the end or the child's size order plus number order is not the parent's size order"
  need (ltb w.p2 (positions_in st p.object)) PgtAddr
  need (eqb (size_at st c + (shape_at st c.object).number) (size_at st p)) PgtAddr
  -- "then range; PGT_MAP if filled or the child is top"
  need (in_span p w.p2) CapFlag
  need (is_empty (position_at st p.object w.p2)) PgtMap
  need (not (shape_at st c.object).top) PgtMap
  Ok (SetPosition p.object w.p2 (Child c.object (w.p3 % 64)))

-- ---- 11 destruct: P1 directory DES; P2 position. "PGT_ADDR, range, PGT_MAP unless ... a child, is there"
unfoldable pub destruct : State → Slot → Words → Try Action
destruct st t w = do
  d ← directory_arg st t w.p1 d_des
  need (ltb w.p2 (positions_in st d.object)) PgtAddr
  need (in_span d w.p2) CapFlag
  need (is_child (position_at st d.object w.p2)) PgtMap
  Ok (SetPosition d.object w.p2 Empty)

-- ---- 12 create process: C table CRT; P1.D1 memory PROC; P2.D1 table PROC_CRT; P2.D0 directory PROC_CRT; P1.D0 place; P3 address
unfoldable pub create_process : State → Slot → Words → Try Action
create_process st t w = do
  c ← table_arg st t (C w) t_crt
  m ← memory_arg st t (D1 w.p1) m_proc
  o ← table_arg st t (D1 w.p2) t_proc_crt
  d ← top_arg st t (D0 w.p2) d_proc_crt
  p ← to_fill st c (D0 w.p1)
  a ← address_arg st m (address w.p3) 1
  Ok (CreateProcess p a o d)

-- ---- 13 delete process: C table DEL; P1 place
unfoldable pub delete_process : State → Slot → Words → Try Action
delete_process st t w = do
  c ← table_arg st t (C w) t_del
  o ← to_delete as_process st c w.p1
  Ok (Delete (spot c w.p1) o)

-- ---- 14 change table: P1 process CPT; P2 table PROC_CPT
unfoldable pub change_table : State → Slot → Words → Try Action
change_table st t w = do
  p ← process_arg st t w.p1 p_cpt
  o ← table_arg st t w.p2 t_proc_cpt
  Ok (ChangeTable p o)

-- ---- 15 change directory: P1 process PGT; P2 directory PROC_PGT
unfoldable pub change_directory : State → Slot → Words → Try Action
change_directory st t w = do
  p ← process_arg st t w.p1 p_pgt
  d ← top_arg st t w.p2 d_proc_pgt
  Ok (ChangeDirectory p d)

-- ---- 16 create endpoint: C table CRT; P1 memory SIG; P2 place; P3 address
unfoldable pub create_endpoint : State → Slot → Words → Try Action
create_endpoint st t w = do
  c ← table_arg st t (C w) t_crt
  m ← memory_arg st t w.p1 m_sig
  p ← to_fill st c w.p2
  a ← address_arg st m (address w.p3) 1
  Ok (CreateEndpoint p a)

-- ---- 17 delete endpoint: C table DEL; P1 place. "SIV_CONFLICT": "deleting the boot endpoint"
unfoldable pub delete_endpoint : State → Slot → Words → Try Action
delete_endpoint st t w = do
  c ← table_arg st t (C w) t_del
  o ← to_delete as_endpoint st c w.p1
  need (not (boot_mark (obj_at st o))) SivConflict
  Ok (Delete (spot c w.p1) o)

-- ---- 18 send: P1 endpoint SND
unfoldable pub send : State → Slot → Words → Try Action
send st t w = do
  e ← endpoint_arg st t w.p1 e_snd
  -- "count is 2^32−1"
  need (ltb (count_of (obj_at st e)) (2 ^ 32 - 1)) SivFull
  Ok (SetCount e (count (count_of (obj_at st e) + 1)) (count 0))

-- ---- 19 receive: P1 endpoint, flag of its option; P2 option 0..3 = BS, BM, NS, NM. "−15 before the flag, after the kind"
abbrev pub option_ns : ℕ
option_ns = 2

abbrev pub option_nm : ℕ
option_nm = 3

abbrev pub option_flag : ℕ → ℕ
option_flag n = 1 + n

-- "Receive NS takes min(1, count), NM takes min(count, 2^31−1)"
abbrev pub most : ℕ → ℕ
most n = choose (eqb n option_ns) 1 (2 ^ 31 - 1)

unfoldable pub receive : State → Slot → Words → Try Action
receive st t w = do
  c ← lookup st t (capability_number w.p1)
  e ← as_endpoint c.kind
  -- "option 0, 1 or above 3"
  need (eqb w.p2 option_ns or eqb w.p2 option_nm) SivAct
  need (has c.flags (option_flag w.p2)) CapFlag
  -- "the rest stays"
  Ok (SetCount e (count (count_of (obj_at st e) - min (count_of (obj_at st e)) (most w.p2))) (count (min (count_of (obj_at st e)) (most w.p2))))

-- ---- 20 function: C function; P1.D0 number. "outside the range is −5, any other but 0 is −4. Function 0 answers clock mod 2^31"
unfoldable pub function : State → Slot → Words → Try Action
function st t w = do
  c ← lookup st t (capability_number (C w))
  f ← as_function c.kind
  need (leb f.low (D0 w.p1) & leb (D0 w.p1) f.high) CapFlag
  need (eqb (D0 w.p1) 0) CapNull
  Ok (Answer (st.clock % 2 ^ 31))

-- ---- −17: "call number not 1..20"
abbrev pub no_call : State → Slot → Words → Try Action
no_call st t w = Err BadCall

-- the calls by their numbers
abbrev pub call_table : List (State → Slot → Words → Try Action)
call_table =
    no_call
    ∷ create_table ∷ delete_table ∷ delegate ∷ freeze ∷ remove
    ∷ create_directory ∷ delete_directory ∷ map_page ∷ remove_page ∷ construct
    ∷ destruct ∷ create_process ∷ delete_process ∷ change_table ∷ change_directory
    ∷ create_endpoint ∷ delete_endpoint ∷ send ∷ receive ∷ function ∷ []

abbrev pub call_of : ℕ → State → Slot → Words → Try Action
call_of n = get_or call_table n no_call

-- ---- −18: "caller is not a live process's slot"; the caller's table
unfoldable pub caller_table : Object → Try Slot
caller_table free = Err BadCaller
caller_table (body h) = Err BadCaller
caller_table (table ps) = Err BadCaller
caller_table (directory g es) = Err BadCaller
caller_table (process t d) = Ok t
caller_table (endpoint c b) = Err BadCaller

-- "Order: −19, −18, −17, then the arguments left to right"; −19 is said of bytes: see Buffer
unfoldable pub plan : State → ℕ → Words → Try Action
plan st caller w = do
  t ← caller_table (obj_at st (slot caller))
  call_of (call_number w) st t w
