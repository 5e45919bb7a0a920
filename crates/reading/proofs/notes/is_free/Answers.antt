-- `reading::notes::is_free` meets its contract: an object is free where its tag is 0.
use mathlib.Core.Path.{sym, ◌∙◌, ap}
use Prim.Native.Nat.{ℕ}
use lib.Dec.{eqb}
use Rattle.state.specs.Read.{read}
use Rattle.state.specs.State.{obj_at}
use Rattle.state.proofs.Look.{free_tag}
use Rattle.reading.proofs.notes.is_free.Goals as goal

pub returns : goal.returns
returns c = let a = c.args in
    ap (λ (n : ℕ). eqb n 0) c.tag_at.ensures ∙ sym (free_tag (obj_at (read a.s.now) a.k))
