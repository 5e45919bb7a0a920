-- What is known of an object tells its form: its number in well-formedness, that it has an entry or a position.
-- So what a call puts in its place has the same form.
use mathlib.Core.Bool.{false≢true, true}
use mathlib.Core.Path.{ap, refl, subst, sym, ◌∙◌, ◌≡◌}
use Prim.Native.Nat.{◌*◌, ◌+◌, ◌<◌, ℕ}
use native.Mathlib.Nat.{not-suc-le-zero}
use native.Mathlib.Omega.{arith}
use lib.ListN.{length, length-set, set}
use Rattle.rules.proofs.Named.{number_tag}
use Rattle.rules.specs.WellFormed.{object_no}
use Rattle.state.proofs.Write.{is_directory, is_endpoint, is_process, is_table, slot_in}
use Rattle.state.specs.State.{Object, State, body, boot_mark, directory, endpoint, entries_in, free, obj_at, places_of, positions_in, positions_of, process, shape_of, size_of, table, table_named}
use Rattle.words.specs.Rights.{is_root}
use Rattle.words.specs.Sizes.{entry_size, header_size, position_size, slots_for}
use Rattle.apart.specs.Names.{Origin, Place, Position, None, Slot, Some}
use Rattle.apart.specs.Reach.{Form, extent, form_of}
use Rattle.apart.proofs.Invariant.{Own}

pub process_form : (o : Object) → object_no o ≡ 4 → Form.process ≡ form_of o
process_form o e = sym (ap form_of (is_process o (number_tag o (omega arith) ∙ e)))

pub process_own : (R : ℕ → Type 0) (o : Object) → object_no o ≡ 4 → Own R o → R (table_named o).0
process_own R o e = subst (Own R) (is_process o (number_tag o (omega arith) ∙ e))

pub endpoint_form : (o : Object) → object_no o ≡ 5 → Form.endpoint (boot_mark o) ≡ form_of o
endpoint_form o e = sym (ap form_of (is_endpoint o (number_tag o (omega arith) ∙ e)))

pub table_form : (o : Object) (i : ℕ) (x : Place) → i < length (places_of o) → form_of (table (set (places_of o) i x)) ≡ form_of o
table_form o i x h = ap Form.table (length-set (places_of o) i x) ∙ sym (ap form_of (is_table o i h))

pub directory_form : (o : Object) (i : ℕ) (x : Position) → i < length (positions_of o) → form_of (directory (shape_of o) (set (positions_of o) i x)) ≡ form_of o
directory_form o i x h = ap (Form.directory (shape_of o)) (length-set (positions_of o) i x) ∙ sym (ap form_of (is_directory o i h))

-- the size is told by the form
abbrev pub size_by : Form → ℕ
size_by Form.free = 1
size_by (Form.body h) = 0
size_by (Form.table n) = slots_for (entry_size * n)
size_by (Form.directory g n) = slots_for (header_size + position_size * n)
size_by Form.process = 1
size_by (Form.endpoint b) = 1

pub size_by_lem : (o : Object) → size_of o ≡ size_by (form_of o)
size_by_lem free = refl
size_by_lem (body h) = refl
size_by_lem (table ps) = refl
size_by_lem (directory g es) = refl
size_by_lem (process t d) = refl
size_by_lem (endpoint c b) = refl

-- what a right can name has a size, and its extent is that
pub real_size : (o : Object) → 0 < object_no o → size_of o ≡ extent (form_of o)
real_size free h = absurd (omega arith)
real_size (body f) h = absurd (omega arith)
real_size (table ps) h = refl
real_size (directory g es) h = refl
real_size (process u d) h = refl
real_size (endpoint c b) h = refl

-- and only that has an extent
pub extent_real : (o : Object) → 0 < extent (form_of o) → 0 < object_no o
extent_real free h = absurd (omega arith)
extent_real (body f) h = absurd (omega arith)
extent_real (table ps) h = omega arith
extent_real (directory g es) h = omega arith
extent_real (process u d) h = omega arith
extent_real (endpoint c b) h = omega arith

pub root_of : (o : Origin) → is_root o ≡ true → o ≡ None
root_of None t = refl
root_of (Some p) t = absurd (false≢true t)

-- what is not free is in memory
pub real_in : (st : State) (s : Slot) → 0 < object_no (obj_at st s) → s.0 < length st.slots
real_in st s h = slot_in st s (λ e. let z : 0 < 0 = rw e at h in omega arith)

pub position_in : (st : State) (s : Slot) (i : ℕ) → i < positions_in st s → s.0 < length st.slots
position_in st s i h = slot_in st s (λ e. not-suc-le-zero (rw e at h))

pub entry_in : (st : State) (t : Slot) (i : ℕ) → i < entries_in st t → t.0 < length st.slots
entry_in st t i h = slot_in st t (λ e. not-suc-le-zero (rw e at h))
