-- "prove that two results satisfying it are equal": each public function's contract determines its answer, and all that was lent.
use Rattle.std.proofs.Common.{sym, refl, ap, ◌∙◌}
use Rattle.words.specs.Determined.{Determined}
use Rattle.writing.proofs as writing
use Rattle.writing.specs.contracts as contracts

pub put_run : Determined contracts.bytes.put_run.ended writing.bytes.put_run.Reads.Learnt
put_run κs a x y v w p q = (refl, ap (λ b. (b, v.1)) (p ∙ sym q))

pub store_clock : Determined contracts.clock.store_clock.ended writing.clock.store_clock.Reads.Learnt
store_clock κs a x y v w p q = (refl, ap (λ b. (b, v.1)) (p ∙ sym q))

pub store_position : Determined contracts.directories.store_position.ended writing.directories.store_position.Reads.Learnt
store_position κs a x y v w p q = (refl, ap (λ b. (b, v.1)) (p ∙ sym q))

pub store_count : Determined contracts.endpoints.store_count.ended writing.endpoints.store_count.Reads.Learnt
store_count κs a x y v w p q = (refl, ap (λ b. (b, v.1)) (p ∙ sym q))

pub store_notes : Determined contracts.notes.store_notes.ended writing.notes.store_notes.Reads.Learnt
store_notes κs a x y v w p q = (refl, ap (λ b. (b, v.1)) (p ∙ sym q))

pub clear_notes : Determined contracts.notes.clear_notes.ended writing.notes.clear_notes.Reads.Learnt
clear_notes κs a x y v w p q = (refl, ap (λ b. (b, v.1)) (p ∙ sym q))

pub store_table_named : Determined contracts.processes.store_table_named.ended writing.processes.store_table_named.Reads.Learnt
store_table_named κs a x y v w p q = (refl, ap (λ b. (b, v.1)) (p ∙ sym q))

pub store_directory_named : Determined contracts.processes.store_directory_named.ended writing.processes.store_directory_named.Reads.Learnt
store_directory_named κs a x y v w p q = (refl, ap (λ b. (b, v.1)) (p ∙ sym q))

pub fill_slots : Determined contracts.slots.fill_slots.ended writing.slots.fill_slots.Reads.Learnt
fill_slots κs a x y v w p q = (refl, ap (λ b. (b, v.1)) (p ∙ sym q))

pub clear_slots : Determined contracts.slots.clear_slots.ended writing.slots.clear_slots.Reads.Learnt
clear_slots κs a x y v w p q = (refl, ap (λ b. (b, v.1)) (p ∙ sym q))

pub store_place : Determined contracts.tables.store_place.ended writing.tables.store_place.Reads.Learnt
store_place κs a x y v w p q = (refl, ap (λ b. (b, v.1)) (p ∙ sym q))
