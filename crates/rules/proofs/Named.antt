-- What stands, by the number of the kind of right that names it: the tag in its note, and that only a directory is top.
use mathlib.Core.Bool.{false≢true, true}
use mathlib.Core.Path.{refl, ◌≡◌}
use Prim.Native.Nat.{◌<◌, ◌≤◌}
use native.Mathlib.Omega.{arith}
use Rattle.state.specs.Bytes.{tag_of}
use Rattle.state.specs.State.{Object, body, directory, endpoint, free, process, shape_of, table}
use Rattle.rules.specs.WellFormed.{object_no}

-- a table's tag is 2 and a directory's 3; a process and an endpoint have their number as tag
pub some_tag : (o : Object) → 0 < object_no o → 2 ≤ tag_of o
some_tag free h = absurd (omega arith)
some_tag (body f) h = absurd (omega arith)
some_tag (table ps) h = omega arith
some_tag (directory g es) h = omega arith
some_tag (process t d) h = omega arith
some_tag (endpoint c b) h = omega arith

pub number_tag : (o : Object) → 3 ≤ object_no o → tag_of o ≡ object_no o
number_tag free h = absurd (omega arith)
number_tag (body f) h = absurd (omega arith)
number_tag (table ps) h = absurd (omega arith)
number_tag (directory g es) h = absurd (omega arith)
number_tag (process t d) h = refl
number_tag (endpoint c b) h = refl

-- only a directory is top
pub top_stands : (o : Object) → (shape_of o).top ≡ true → object_no o ≡ 2
top_stands free h = absurd (false≢true h)
top_stands (body f) h = absurd (false≢true h)
top_stands (table ps) h = absurd (false≢true h)
top_stands (directory g es) h = refl
top_stands (process t d) h = absurd (false≢true h)
top_stands (endpoint c b) h = absurd (false≢true h)
