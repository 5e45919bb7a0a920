-- `hex_reading::text_lines::split_line` meets its contract.
use Rattle.std.proofs.Common.{◌∙◌, ℕ, ap, sym, Some, None, take, drop}
use lib.Seq.{drop-length, take-length}
use Rattle.hex_reading.proofs.Lines.{line_ends}
use Rattle.hex_reading.proofs.text_lines.split_line.Goals as goal

pub returns-in-Some-clause-line : goal.returns-in-Some-clause-line
returns-in-Some-clause-line c = let t = c.args.text.now in c.split_at.ensures.front ∙ ap (λ (n : ℕ). take n t) (sym (line_ends t (Some c.in-Some.feed) c.in-Some.ensures))

pub returns-in-Some-clause-behind : goal.returns-in-Some-clause-behind
returns-in-Some-clause-behind c = let t = c.args.text.now in c.split_at.ensures.back ∙ ap (λ (n : ℕ). drop n t) (sym (line_ends t (Some c.in-Some.feed) c.in-Some.ensures))

pub returns-in-None-clause-line : goal.returns-in-None-clause-line
returns-in-None-clause-line c = let t = c.args.text.now in sym (ap (λ (n : ℕ). take n t) (line_ends t None c.in-None.ensures) ∙ take-length t)

pub returns-in-None-clause-behind : goal.returns-in-None-clause-behind
returns-in-None-clause-behind c = let t = c.args.text.now in sym (ap (λ (n : ℕ). drop n t) (line_ends t None c.in-None.ensures) ∙ drop-length t)
