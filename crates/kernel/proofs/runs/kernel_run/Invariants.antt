-- `kernel::runs::kernel_run` meets its contract. The loop's invariant: the first i events have happened.
use Rattle.std.proofs.Common.{◌≡◌, ◌-◌, ◌≤◌, ◌++◌, length, drop}
use Rattle.rules.specs.Run.{run_outcome}
use Rattle.kernel.specs.Script.{events_in}
use Rattle.kernel.proofs.runs.kernel_run.Given as goal

abbrev pub invariant-loop-i : goal.invariant-loop-i
invariant-loop-i l = (l.s ≡ (run_outcome l.initial.s (events_in l.i l.script)).buffer) × (l.answers ≡ (run_outcome l.initial.s (events_in l.i l.script)).replies ++ drop l.i l.initial.answers) × (l.i ≤ l.n) × (length l.s ≡ length l.initial.s) × (length l.answers ≡ length l.initial.answers)

abbrev pub decreases-loop-i : goal.decreases-loop-i
decreases-loop-i l = l.n - l.i
