-- `committing::creations::raise` meets its contract: the three writes in their order.
use Rattle.committing.proofs.creations.raise.Goals as goal

pub returns : goal.returns
returns c = rw (c.store_place.ensures, c.root_right.ensures, c.fill_slots.ensures, c.store_notes.ensures)
