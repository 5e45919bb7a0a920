-- `judging_directories::geometry::shape_asked` meets its contract: the fields are the code's, and the flag is bit 0.
use Rattle.judging_directories.proofs.geometry.shape_asked.Goals as goal

pub returns : goal.returns
returns c = rw (c.q0.ensures, c.number_order.ensures, c.has_flag.ensures)
