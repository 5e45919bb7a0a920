-- `kernel::states::kernel_tick` meets its contract: by the check, and what a stored clock leaves of the bytes.
use Rattle.std.proofs.Common.{◌≡◌, true, sym, ◌∙◌, arith, w32}
use mir.ValLaws.{to_z-of_z}
use Rattle.rules.specs.Buffer.{tick_outcome, sound}
use Rattle.kernel.proofs.Laws.{sound_long, tick_written}
use Rattle.kernel.proofs.states.kernel_tick.Goals as goal

pub returns-then-not-well_formed : goal.returns-then-not-well_formed
unfolding tick_outcome
returns-then-not-well_formed c = rw (to_z-of_z w32 c.refusal_number.result (record { sfits = c.refusal_number.type_inv }), c.refusal_number.ensures, ← c.well_formed-2.ensures, c.if-not-well_formed.true)

pub store_clock-requires : goal.store_clock-requires
store_clock-requires c = omega (arith, sound_long c.args.s.now (sym c.well_formed-2.ensures ∙ c.if-not-well_formed.false))

pub returns : goal.returns
unfolding tick_outcome
returns c =
    let e : sound c.args.s.now ≡ true = sym c.well_formed-2.ensures ∙ c.if-not-well_formed.false in
    rw (e, c.store_clock.ensures, c.clock-c.ensures, tick_written c.args.s.now e)
