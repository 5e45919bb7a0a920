-- `hex_reading::taking::nothing_more` meets its contract.
use Rattle.std.proofs.Common.{sym, arith}
use Rattle.intel_hex.proofs.Steps.{more_none, more_some}
use Rattle.hex_reading.proofs.taking.nothing_more.Goals as goal

pub returns-then-is_empty : goal.returns-then-is_empty
returns-then-is_empty c = λ b. let h = c.is_empty.ensures in let g = c.if-is_empty.true in sym (more_none b c.args.text.now 0 (grind arith))

pub returns-else-is_empty : goal.returns-else-is_empty
returns-else-is_empty c = λ b. let h = c.is_empty.ensures in let g = c.if-is_empty.false in sym (more_some b c.args.text.now 0 (grind arith))
