-- `boot::store_objects` meets its contract: each writer's splice, the last outermost.
use Rattle.boot.specs.Stages.{with_objects}
use Rattle.boot.proofs.store_objects.Goals as goal

pub returns : goal.returns
unfolding with_objects
returns c = rw (c.fill_slots-3.ensures, c.fill_slots-2.ensures, c.fill_slots.ensures, c.store_notes-4.ensures, c.store_notes-3.ensures, c.store_notes-2.ensures, c.store_notes.ensures, c.slots_for-table_slots.ensures, c.slots_for-directory_slots.ensures)
