-- `judging_directories::create_directory::shape_and_place` meets its contract: each return is the rule's, step by step.
use Rattle.std.proofs.Common.{rules}
use mathlib.Core.Path.{sym, ◌∙◌}
use Rattle.rules.proofs.Facts.{number_few}
use Rattle.words.specs.Try.{◌>>=◌, ◌>>◌, need}
use Rattle.judging_directories.specs.Shaping.{shape_and_place}
use Rattle.judging_directories.proofs.create_directory.shape_and_place.Goals as goal

pub returns-then-not-is_geometric : goal.returns-then-not-is_geometric
unfolding shape_and_place ◌>>=◌ ◌>>◌ need
returns-then-not-is_geometric c = search rules

pub returns-in_err-first : goal.returns-in_err-first
unfolding shape_and_place ◌>>=◌ ◌>>◌ need
returns-in_err-first c = search rules

pub returns : goal.returns
unfolding shape_and_place ◌>>=◌ ◌>>◌ need
returns c = search rules

pub slots_taken-requires : goal.slots_taken-requires
slots_taken-requires c = number_few c.args.g (sym c.is_geometric.ensures ∙ c.if-not-is_geometric.false)
