-- `input::take_all` may go on calling its function, since each call leaves that as it was.
use Rattle.input.proofs.take_all.Given as goal

abbrev pub invariant-loop : goal.invariant-loop
invariant-loop g l = goal.F-IsAlwaysCallable g l.visit
