-- `judging_directories::create_directory::judge_create_directory` meets its contract: each return is the rule's, step by step.
use Rattle.std.proofs.Common.{rules}
use Rattle.words.specs.Try.{◌>>=◌, ◌>>◌, need}
use Rattle.passed.proofs.Stand.{memory_found}
use Rattle.rules.specs.Calls.{create_directory}
use Rattle.judging_directories.specs.Shaping.{shape_and_place}
use Rattle.judging_directories.proofs.create_directory.judge_create_directory.Goals as goal

pub returns-in_err-c : goal.returns-in_err-c
unfolding create_directory ◌>>=◌ ◌>>◌ need
returns-in_err-c c = search rules

pub returns-in_err-m : goal.returns-in_err-m
unfolding create_directory ◌>>=◌ ◌>>◌ need
returns-in_err-m c = search rules

pub returns-in_err-p : goal.returns-in_err-p
unfolding create_directory ◌>>=◌ ◌>>◌ need
returns-in_err-p c = search rules

pub returns : goal.returns
unfolding create_directory shape_and_place ◌>>=◌ ◌>>◌ need
returns c = search rules

pub shape_and_place-requires : goal.shape_and_place-requires
shape_and_place-requires c = memory_found _ _ _ _ c.requires c.memory_arg.ensures c.in_ok-m.was
