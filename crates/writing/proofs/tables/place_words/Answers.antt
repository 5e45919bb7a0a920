-- `writing::tables::place_words` meets its contract: by cases on the place.
use Rattle.state.specs.Bytes.{place_bytes}
use Rattle.writing.proofs.tables.place_words.Goals as goal

pub returns-in-None : goal.returns-in-None
unfolding place_bytes
returns-in-None c = rw c.in-None.is

pub returns-in-Some : goal.returns-in-Some
unfolding place_bytes
returns-in-Some c = rw c.in-Some.is c.right_words.ensures
