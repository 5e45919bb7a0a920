-- "prove that two results satisfying it are equal": each public function's contract determines its answer, and all that was lent.
use mathlib.Core.Path.{refl, ap}
use Rattle.words.specs.Determined.{Determined, DeterminedAs}
use Rattle.words.specs.Fields.{count}
use Rattle.reading.proofs as reading
use Rattle.reading.specs.contracts as contracts

pub word_at : Determined contracts.bytes.word_at.ended reading.bytes.word_at.Reads.Learnt
word_at κs a x y v w p q = (cc, refl)

pub slots_from : DeterminedAs contracts.bytes.slots_from.ended (λ κs x. x.now) reading.bytes.slots_from.Reads.Learnt
slots_from κs a x y v w p q = (cc, refl)

pub clock : Determined contracts.clock.clock.ended reading.clock.clock.Reads.Learnt
clock κs a x y v w p q = (cc, refl)

pub positions_in : Determined contracts.directories.positions_in.ended reading.directories.positions_in.Reads.Learnt
positions_in κs a x y v w p q = (cc, refl)

pub positions_for : Determined contracts.directories.positions_for.ended reading.directories.positions_for.Reads.Learnt
positions_for κs a x y v w p q = (cc, refl)

pub directory_slots : DeterminedAs contracts.directories.directory_slots.ended (λ κs x. x.now) reading.directories.directory_slots.Reads.Learnt
directory_slots κs a x y v w p q = (cc, refl)

pub position_at : Determined contracts.directories.position_at.ended reading.directories.position_at.Reads.Learnt
position_at κs a x y v w p q = (cc, refl)

pub shape_at : Determined contracts.directories.shape_at.ended reading.directories.shape_at.Reads.Learnt
shape_at κs a x y v w p q = (cc, refl)

pub count_at : Determined contracts.endpoints.count_at.ended reading.endpoints.count_at.Reads.Learnt
count_at κs a x y v w p q = (ap count (cc), refl)

pub boot_mark_at : Determined contracts.endpoints.boot_mark_at.ended reading.endpoints.boot_mark_at.Reads.Learnt
boot_mark_at κs a x y v w p q = (cc, refl)

pub tag_byte : Determined contracts.notes.tag_byte.ended reading.notes.tag_byte.Reads.Learnt
tag_byte κs a x y v w p q = (cc, refl)

pub argument_byte : Determined contracts.notes.argument_byte.ended reading.notes.argument_byte.Reads.Learnt
argument_byte κs a x y v w p q = (cc, refl)

pub tag_at : Determined contracts.notes.tag_at.ended reading.notes.tag_at.Reads.Learnt
tag_at κs a x y v w p q = (cc, refl)

pub first_at : Determined contracts.notes.first_at.ended reading.notes.first_at.Reads.Learnt
first_at κs a x y v w p q = (cc, refl)

pub all_free : Determined contracts.notes.all_free.ended reading.notes.all_free.Reads.Learnt
all_free κs a x y v w p q = (cc, refl)

pub place_of : Determined contracts.places.place_of.ended reading.places.place_of.Reads.Learnt
place_of κs a x y v w p q = (cc, refl)

pub position_of : Determined contracts.positions.position_of.ended reading.positions.position_of.Reads.Learnt
position_of κs a x y v w p q = (cc, refl)

pub table_named : Determined contracts.processes.table_named.ended reading.processes.table_named.Reads.Learnt
table_named κs a x y v w p q = (cc, refl)

pub directory_named : Determined contracts.processes.directory_named.ended reading.processes.directory_named.Reads.Learnt
directory_named κs a x y v w p q = (cc, refl)

pub entries_in : Determined contracts.tables.entries_in.ended reading.tables.entries_in.Reads.Learnt
entries_in κs a x y v w p q = (cc, refl)

pub table_slots : DeterminedAs contracts.tables.table_slots.ended (λ κs x. x.now) reading.tables.table_slots.Reads.Learnt
table_slots κs a x y v w p q = (cc, refl)

pub place_at : Determined contracts.tables.place_at.ended reading.tables.place_at.Reads.Learnt
place_at κs a x y v w p q = (cc, refl)
