-- `reading::processes::table_named` meets its contract: a process's own bytes name it.
use mathlib.Core.Path.{◌∙◌}
use native.Mathlib.Nat.{add-zero}
use borrow.Author.Rules.{rules}
use Rattle.state.proofs.Look.{table_known, table_none}
use Rattle.reading.proofs.Tagged.{tagged}
use Rattle.reading.proofs.processes.table_named.Goals as goal

pub returns : goal.returns
returns c = let a = c.args in
    rw add-zero at c.named.ensures ∙ tagged a.s.now a.p.0 4 _ _ _ (table_known a.s.now a.p (search rules)) (table_none a.s.now a.p (search rules))
