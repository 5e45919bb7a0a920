-- `hex_reading::text_lines::body` meets its contract.
use Rattle.std.proofs.Common.{◌∙◌, sym}
use Rattle.intel_hex.specs.Lines.{body_of, unreturned}
use Rattle.hex_reading.proofs.Lines.{ends, unwrapped}
use Rattle.hex_reading.proofs.text_lines.body.Goals as goal

pub returns : goal.returns
unfolding body_of unreturned
returns c =
    let p = c.in_ok-body.ensures.cases in
    let q = c.strip_suffix-2.ensures.cases in
    (sym (ends c.args.line.now 9) ∙ p.0, rw c.unwrap_or.ensures (unwrapped (λ x. x.now) c.strip_suffix-2.result _ (body_of c.args.line.now) q (λ n. rw (← p.1, sym (ends c.in_ok-body.body.now 12) ∙ n)) (λ x s. rw (← p.1, sym (ends c.in_ok-body.body.now 12) ∙ s.0) s.1)))
