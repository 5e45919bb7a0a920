-- `judging_directories::hanging::holds_this` meets its contract: the position is the one that starts at its byte of the part.
use mathlib.Core.Path.{ap, ◌∙◌}
use Rattle.rules.specs.Calls.{is_child_at}
use Rattle.judging_directories.proofs.hanging.holds_this.Goals as goal

pub returns : goal.returns
returns c = c.is_child_at.ensures ∙ ap (is_child_at c.args.d) c.position_in.ensures
