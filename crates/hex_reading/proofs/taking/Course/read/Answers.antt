-- `hex_reading::taking::Course::read` meets its contract: what the lines that are left give, after those taken, decides the whole.
use Rattle.std.proofs.Common.{◌∙◌, ap, sym, ◌<◌, length, arith}
use Rattle.std.proofs.lemmas.Result.{err_from_is_err_and}
use Rattle.intel_hex.specs.Reading.{Given, lines_taken, read_lines}
use Rattle.intel_hex.proofs.Steps.{line_bad, line_on, line_over, lines_none, taken_bad, taken_none, taken_on, taken_over}
use Rattle.hex_reading.specs.Numbers.{numbers}
use Rattle.hex_reading.proofs.Lines.{behind_shorter, first_line}
use Rattle.hex_reading.proofs.taking.Course.read.Goals as goal

pub returns-in_err-step-clause-text : goal.returns-in_err-step-clause-text
returns-in_err-step-clause-text c =
    let l = c.loop-rest in
    let g : Given = record { cells = numbers l.self.cells; upper = l.self.upper } in
    let e = c.is_empty.ensures in
    let n = c.loop-rest-test.true in
    let s = c.split_line in
    let first = first_line l.rest.now s.result.0.now s.result.1.now (grind arith) s.ensures.line s.ensures.behind in
    let p = err_from_is_err_and c.from_residual.result c.from_residual.ensures.1 in
    rw (p.1, p.2) (sym (l.invariant.text ∙ ap (read_lines g) first ∙ line_bad g _ _ _ (sym c.in_err-step.ensures.step)))

pub returns-in_err-step-clause-lines : goal.returns-in_err-step-clause-lines
returns-in_err-step-clause-lines c =
    let l = c.loop-rest in
    let g : Given = record { cells = numbers l.self.cells; upper = l.self.upper } in
    let e = c.is_empty.ensures in
    let n = c.loop-rest-test.true in
    let s = c.split_line in
    let first = first_line l.rest.now s.result.0.now s.result.1.now (grind arith) s.ensures.line s.ensures.behind in
    omega (arith, c.take_line.ensures.taken, l.invariant.lines, ap (lines_taken g) first ∙ taken_bad g _ _ _ (sym c.in_err-step.ensures.step))

pub returns-clause-text : goal.returns-clause-text
returns-clause-text c =
    let l = c.loop-rest in
    let g : Given = record { cells = numbers l.self.cells; upper = l.self.upper } in
    let e = c.is_empty.ensures in
    let n = c.loop-rest-test.false in
    sym (l.invariant.text ∙ lines_none g l.rest.now 0 (grind arith))

pub returns-clause-lines : goal.returns-clause-lines
returns-clause-lines c =
    let l = c.loop-rest in
    let g : Given = record { cells = numbers l.self.cells; upper = l.self.upper } in
    let e = c.is_empty.ensures in
    let n = c.loop-rest-test.false in
    omega (arith, l.invariant.lines, taken_none g l.rest.now 0 (grind arith))

pub returns-in-Over-clause-text : goal.returns-in-Over-clause-text
returns-in-Over-clause-text c =
    let l = c.loop-rest in
    let g : Given = record { cells = numbers l.self.cells; upper = l.self.upper } in
    let e = c.is_empty.ensures in
    let n = c.loop-rest-test.true in
    let s = c.split_line in
    let first = first_line l.rest.now s.result.0.now s.result.1.now (grind arith) s.ensures.line s.ensures.behind in
    c.nothing_more.ensures _ ∙ sym (l.invariant.text ∙ ap (read_lines g) first ∙ line_over g _ _ _ (sym (rw c.in-Over.is at c.in_ok-step.ensures.step)))

pub returns-in-Over-clause-lines : goal.returns-in-Over-clause-lines
returns-in-Over-clause-lines c =
    let l = c.loop-rest in
    let g : Given = record { cells = numbers l.self.cells; upper = l.self.upper } in
    let e = c.is_empty.ensures in
    let n = c.loop-rest-test.true in
    let s = c.split_line in
    let first = first_line l.rest.now s.result.0.now s.result.1.now (grind arith) s.ensures.line s.ensures.behind in
    omega (arith, c.take_line.ensures.taken, l.invariant.lines, ap (lines_taken g) first ∙ taken_over g _ _ _ (sym (rw c.in-Over.is at c.in_ok-step.ensures.step)))

pub loop-rest-smaller : goal.loop-rest-smaller
loop-rest-smaller c =
    let e = c.is_empty.ensures in
    let n = c.loop-rest-test.true in
    let s = c.split_line in
    behind_shorter c.loop-rest.rest.now s.result.0.now s.result.1.now (grind arith) s.ensures.behind

pub loop-rest-preserved : goal.loop-rest-preserved
loop-rest-preserved c =
    let l = c.loop-rest in
    let g : Given = record { cells = numbers l.self.cells; upper = l.self.upper } in
    let e = c.is_empty.ensures in
    let n = c.loop-rest-test.true in
    let s = c.split_line in
    let ahead : 0 < length l.rest.now = grind arith in
    let first = first_line l.rest.now s.result.0.now s.result.1.now ahead s.ensures.line s.ensures.behind in
    let step = sym (rw c.in-On.is at c.in_ok-step.ensures.step) in record {
      fits = omega (arith, c.take_line.ensures.taken, l.invariant.fits, behind_shorter l.rest.now s.result.0.now s.result.1.now ahead s.ensures.behind);
      text = l.invariant.text ∙ ap (read_lines g) first ∙ line_on g _ _ _ step;
      lines = omega (arith, c.take_line.ensures.taken, l.invariant.lines, ap (lines_taken g) first ∙ taken_on g _ _ _ step);
    }
