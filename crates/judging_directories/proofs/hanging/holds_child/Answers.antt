-- `judging_directories::hanging::holds_child` meets its contract: the position is the one that starts at its byte of the part.
use mathlib.Core.Path.{ap, ◌∙◌}
use Rattle.rules.specs.Calls.{is_child}
use Rattle.judging_directories.proofs.hanging.holds_child.Goals as goal

pub returns : goal.returns
returns c = c.is_child.ensures ∙ ap is_child c.position_in.ensures
