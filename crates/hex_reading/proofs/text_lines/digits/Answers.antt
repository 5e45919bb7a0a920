-- `hex_reading::text_lines::digits` meets its contract.
use Rattle.std.proofs.Common.{◌∙◌, sym}
use borrow.Author.Tests.{eq-eqb, ne_eqb}
use Rattle.words.specs.Tests.{◌&◌}
use Rattle.intel_hex.specs.Lines.{spells}
use Rattle.hex_reading.proofs.Lines.{begins, hex_all}
use Rattle.hex_reading.proofs.text_lines.digits.Goals.{else-all_hex-via-then-all_hex+else-digits-eq0, else-all_hex-via-else-all_hex}
use Rattle.hex_reading.proofs.text_lines.digits.Goals as goal

pub returns-in_err-digits : goal.returns-in_err-digits
unfolding spells ◌&◌
returns-in_err-digits c = rw c.from_residual.ensures (rw (sym (begins c.args.body.now 57) ∙ c.in_err-digits.ensures.cases))

pub returns-then-digits-eq0 : goal.returns-then-digits-eq0
unfolding spells ◌&◌
returns-then-digits-eq0 c =
    let p = c.in_ok-digits.ensures.cases in
    (rw (sym (begins c.args.body.now 57) ∙ p.0, ← p.1, ← hex_all c.in_ok-digits.digits.now, ← c.all_hex.ensures, c.if-all_hex.true, eq-eqb _ _ c.if-digits-eq0.true), p.1)

pub returns-else-all_hex : goal.returns-else-all_hex
unfolding spells ◌&◌
returns-else-all_hex c =
    let p = c.in_ok-digits.ensures.cases in
    let h = c.all_hex.ensures in
    rw (sym (begins c.args.body.now 57) ∙ p.0, ← p.1, ← hex_all c.in_ok-digits.digits.now, ← c.all_hex.ensures) (elim c.else-all_hex.branch [ else-all_hex-via-then-all_hex+else-digits-eq0 w ↦ rw (w.if-all_hex.true, ne_eqb _ _ w.if-digits-eq0.false) | else-all_hex-via-else-all_hex w ↦ rw w.if-all_hex.false ])
