-- `lines::spans::word_after` meets its contract.
use Prim.Native.Nat.{◌≤◌}
use lib.ListN.{length}
use mathlib.Core.Path.{◌≡◌}
use Rattle.std.proofs.Common.{rules}
use Rattle.lines.proofs.Runs.{run_ahead, run_ends}
use Rattle.lines.specs.Spans.{blank, past_run, solid}
use Rattle.lines.proofs.spans.word_after.Goals as goal

pub returns-clause-inside : goal.returns-clause-inside
returns-clause-inside c =
    let line = c.args.line.now in
    let from : c.past_run-from.result ≡ past_run blank line c.args.at = search rules in
    let to : c.past_run-to.result ≡ past_run solid line c.past_run-from.result = search rules in
    let in_it : c.past_run-from.result ≤ length line = rw from (run_ends blank line c.args.at) in
    (rw to (run_ahead solid line c.past_run-from.result in_it), rw to (run_ends solid line c.past_run-from.result))
