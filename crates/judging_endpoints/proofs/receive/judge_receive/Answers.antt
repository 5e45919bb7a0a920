-- `judging_endpoints::receive::judge_receive` meets its contract: each return is the rule's, step by step.
use mathlib.Core.Path.{sym, ◌∙◌}
use Rattle.std.proofs.Common.{rules, arith}
use Rattle.words.specs.Try.{◌>>=◌, ◌>>◌, need}
use Rattle.rules.specs.Calls.{receive}
use Rattle.judging_endpoints.specs.Taken.{taken}
use Rattle.judging_endpoints.proofs.Options.{option_few}
use Rattle.judging_endpoints.proofs.receive.judge_receive.Goals as goal

pub returns-in_err-c : goal.returns-in_err-c
unfolding receive ◌>>=◌ ◌>>◌ need
returns-in_err-c c = search rules

pub returns-in_err-e : goal.returns-in_err-e
unfolding receive ◌>>=◌ ◌>>◌ need
returns-in_err-e c = search rules

pub returns-then-not-is_option : goal.returns-then-not-is_option
unfolding receive ◌>>=◌ ◌>>◌ need
returns-then-not-is_option c = search rules

pub overflow_add-o : goal.overflow_add-o
overflow_add-o c = omega (arith, option_few c.args.w.p2 (sym c.is_option.ensures ∙ c.if-not-is_option.false))

pub has_flag-requires : goal.has_flag-requires
has_flag-requires c = omega (arith, option_few c.args.w.p2 (sym c.is_option.ensures ∙ c.if-not-is_option.false))

pub returns-then-not-has_flag : goal.returns-then-not-has_flag
unfolding receive ◌>>=◌ ◌>>◌ need
returns-then-not-has_flag c = search rules

pub returns : goal.returns
unfolding receive ◌>>=◌ ◌>>◌ need taken
returns c = search rules
