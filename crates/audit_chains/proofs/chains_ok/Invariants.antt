-- `audit_chains::chains_ok` meets its contract: each listed table is asked in turn, with no mark at first, and the other slots have no entry.
use mathlib.Core.Bool.{true}
use mathlib.Core.Path.{◌≡◌}
use lib.ListN.{get_or}
use Rattle.state.specs.Read.{read}
use Rattle.words.specs.Fields.{slot}
use Rattle.words.specs.Tests.{all_below}
use Rattle.audit_chains.proofs.Table.{table_chained}
use Rattle.audit_chains.proofs.chains_ok.Given as goal

abbrev pub invariant-loop-k : goal.invariant-loop-k
invariant-loop-k l = (l.marked.s.now ≡ l.s) × (all_below l.k-index (λ j. table_chained (read l.s) (slot (get_or l.heads j 0))) ≡ true)
