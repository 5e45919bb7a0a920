-- `kernel::calls::kernel_call` meets its contract: by the check, what the plan is, and what its action leaves.
use Rattle.std.proofs.Common.{◌≡◌, true, sym, ap, ◌∙◌, w32}
use mir.ValLaws.{to_z-of_z}
use Rattle.rules.specs.Buffer.{call_outcome, sound}
use Rattle.rules.specs.Cases.{four}
use Rattle.rules.proofs.Lift.{sound_open}
use Rattle.committing.proofs.Ready.{ready_plan, answer_fits}
use Rattle.state.specs.Read.{read}
use Rattle.kernel.proofs.calls.kernel_call.Goals as goal

pub returns-then-not-well_formed : goal.returns-then-not-well_formed
unfolding call_outcome
returns-then-not-well_formed c = rw (to_z-of_z w32 c.refusal_number.result (record { sfits = c.refusal_number.type_inv }), c.refusal_number.ensures, ← c.well_formed-2.ensures, c.if-not-well_formed.true)

pub judge-p-requires : goal.judge-p-requires
judge-p-requires c = (sound_open c.args.s.now (sym c.well_formed-2.ensures ∙ c.if-not-well_formed.false)).formed

pub carry_out-requires : goal.carry_out-requires
carry_out-requires c =
    let a = c.args in
    let e : sound a.s.now ≡ true = sym c.well_formed-2.ensures ∙ c.if-not-well_formed.false in
    let ready = ready_plan a.s.now a.caller (four a.w0 a.w1 a.w2 a.w3) c.in-Ok.a e (sym c.judge-p.ensures ∙ c.in-Ok.is) in record {
      well_formed = e;
      ready = ready;
    }

pub answer_of-requires : goal.answer_of-requires
answer_of-requires c =
    let a = c.args in
    let e : sound a.s.now ≡ true = sym c.well_formed-2.ensures ∙ c.if-not-well_formed.false in
    let ready = ready_plan a.s.now a.caller (four a.w0 a.w1 a.w2 a.w3) c.in-Ok.a e (sym c.judge-p.ensures ∙ c.in-Ok.is) in
    answer_fits (read a.s.now) c.in-Ok.a ready

pub returns-in-Ok : goal.returns-in-Ok
unfolding call_outcome
returns-in-Ok c =
    let a = c.args in
    let e : sound a.s.now ≡ true = sym c.well_formed-2.ensures ∙ c.if-not-well_formed.false in
    rw (to_z-of_z w32 c.answer_of.result (record { sfits = c.answer_of.type_inv }), c.answer_of.ensures, c.carry_out.ensures, e, ← c.judge-p.ensures, c.in-Ok.is)

pub returns-in-Err : goal.returns-in-Err
unfolding call_outcome
returns-in-Err c =
    let a = c.args in
    let e : sound a.s.now ≡ true = sym c.well_formed-2.ensures ∙ c.if-not-well_formed.false in
    rw (to_z-of_z w32 c.refusal_number-in-Err.result (record { sfits = c.refusal_number-in-Err.type_inv }), c.refusal_number-in-Err.ensures, e, ← c.judge-p.ensures, c.in-Err.is)
