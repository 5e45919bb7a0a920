-- `judging_directories::delete_directory::judge_delete_directory` meets its contract: each return is the rule's, step by step.
use Rattle.std.proofs.Common.{rules}
use Rattle.words.specs.Try.{◌>>=◌, ◌>>◌, need}
use Rattle.rules.specs.Calls.{delete_directory}
use Rattle.judging_directories.proofs.delete_directory.judge_delete_directory.Goals as goal

pub returns-in_err-c : goal.returns-in_err-c
unfolding delete_directory ◌>>=◌ ◌>>◌ need
returns-in_err-c c = search rules

pub returns-in_err-o : goal.returns-in_err-o
unfolding delete_directory ◌>>=◌ ◌>>◌ need
returns-in_err-o c = search rules

pub returns-then-has_child_directory : goal.returns-then-has_child_directory
unfolding delete_directory ◌>>=◌ ◌>>◌ need
returns-then-has_child_directory c = search rules

pub returns-then-hangs_somewhere : goal.returns-then-hangs_somewhere
unfolding delete_directory ◌>>=◌ ◌>>◌ need
returns-then-hangs_somewhere c = search rules

pub returns : goal.returns
unfolding delete_directory ◌>>=◌ ◌>>◌ need
returns c = search rules
