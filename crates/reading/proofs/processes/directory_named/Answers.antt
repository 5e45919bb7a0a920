-- `reading::processes::directory_named` meets its contract: a process's own bytes name it.
use mathlib.Core.Path.{◌∙◌}
use borrow.Author.Rules.{rules}
use Rattle.state.proofs.Look.{directory_known, directory_none}
use Rattle.reading.proofs.Tagged.{tagged}
use Rattle.reading.proofs.processes.directory_named.Goals as goal

pub returns : goal.returns
returns c = let a = c.args in
    c.named.ensures ∙ tagged a.s.now a.p.0 4 _ _ _ (directory_known a.s.now a.p (search rules)) (directory_none a.s.now a.p (search rules))
