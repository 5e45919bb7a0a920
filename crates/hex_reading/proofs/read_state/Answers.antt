-- `hex_reading::read_state` meets its contract: the check is made on bytes apart, and the destination is written where it passes.
use Rattle.std.proofs.Common.{true, false, ◌≡◌, sym, ◌∙◌}
use Rattle.std.proofs.lemmas.Result.{err_from_is_err_and}
use borrow.Author.Tests.{ne_eqb}
use Rattle.rules.specs.Buffer.{sound}
use Rattle.intel_hex.specs.Outcomes.{read_outcome}
use Rattle.intel_hex.specs.Reading.{given, gives}
use Rattle.intel_hex.proofs.Ends.{outcome_of}
use Rattle.hex_reading.specs.Numbers.{numbers}
use Rattle.hex_reading.proofs.read_state.Goals as goal

pub returns-then-s-ne-STATE_LENGTH : goal.returns-then-s-ne-STATE_LENGTH
unfolding read_outcome
returns-then-s-ne-STATE_LENGTH c = rw (ne_eqb _ _ c.if-s-ne-STATE_LENGTH.true)

pub returns-in_err-read : goal.returns-in_err-read
returns-in_err-read c =
    let p = err_from_is_err_and c.from_residual.result c.from_residual.ensures.1 in
    rw (p.1, p.2)
    (sym (outcome_of c.args.text.now c.args.s.now _ c.if-s-ne-STATE_LENGTH.false (rw (c.new-course.ensures.cells, c.new-course.ensures.upper) at c.in_err-read.ensures.text)))

pub returns-then-not-well_formed : goal.returns-then-not-well_formed
returns-then-not-well_formed c =
    let b = given (numbers c.read.new.self.cells) in
    let e : sound b ≡ false = rw c.bytes_of.ensures at (sym c.well_formed-2.ensures ∙ c.if-not-well_formed.true) in
    rw (outcome_of c.args.text.now c.args.s.now (gives b) c.if-s-ne-STATE_LENGTH.false (rw (c.new-course.ensures.cells, c.new-course.ensures.upper) at c.in_ok-read.ensures.text), e)

pub returns : goal.returns
returns c =
    let b = given (numbers c.read.new.self.cells) in
    let e : sound b ≡ true = rw c.bytes_of.ensures at (sym c.well_formed-2.ensures ∙ c.if-not-well_formed.false) in
    rw (outcome_of c.args.text.now c.args.s.now (gives b) c.if-s-ne-STATE_LENGTH.false (rw (c.new-course.ensures.cells, c.new-course.ensures.upper) at c.in_ok-read.ensures.text), e, c.bytes_of-2.ensures)
