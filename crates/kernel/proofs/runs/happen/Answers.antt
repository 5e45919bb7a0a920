-- `kernel::runs::happen` meets its contract: a tick or a call, by the caller.
use Rattle.std.proofs.Common.{w32, eq-eqb, ne_eqb}
use mir.ValLaws.{to_z-of_z}
use Rattle.rules.specs.Run.{happens}
use Rattle.kernel.specs.Script.{event_from}
use Rattle.kernel.proofs.runs.happen.Goals as goal

pub returns-then-caller-eq-THE_CLOCK : goal.returns-then-caller-eq-THE_CLOCK
unfolding happens event_from
returns-then-caller-eq-THE_CLOCK c = rw (to_z-of_z w32 c.kernel_tick.result (record { sfits = c.kernel_tick.type_inv }), eq-eqb _ _ c.if-caller-eq-THE_CLOCK.true) c.kernel_tick.ensures

pub returns : goal.returns
unfolding happens event_from
returns c = rw (to_z-of_z w32 c.kernel_call.result (record { sfits = c.kernel_call.type_inv }), ne_eqb _ _ c.if-caller-eq-THE_CLOCK.false) c.kernel_call.ensures
