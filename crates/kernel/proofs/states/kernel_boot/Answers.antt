-- `kernel::states::kernel_boot` meets its contract: by the length, and what `store_boot` leaves.
use Rattle.std.proofs.Common.{w32, eq-eqb, ne_eqb}
use mir.ValLaws.{to_z-of_z}
use Rattle.rules.specs.Buffer.{boot_outcome}
use Rattle.kernel.proofs.states.kernel_boot.Goals as goal

pub returns-then-s-ne-STATE_LENGTH : goal.returns-then-s-ne-STATE_LENGTH
unfolding boot_outcome
returns-then-s-ne-STATE_LENGTH c = rw (to_z-of_z w32 c.refusal_number.result (record { sfits = c.refusal_number.type_inv }), c.refusal_number.ensures, ne_eqb _ _ c.if-s-ne-STATE_LENGTH.true)

pub returns : goal.returns
unfolding boot_outcome
returns c = rw (eq-eqb _ _ c.if-s-ne-STATE_LENGTH.false, c.store_boot.ensures)
