-- `judging_processes::endpoints::judge_create_endpoint` meets its contract: each return is the rule's, step by step.
use Rattle.std.proofs.Common.{rules}
use Rattle.words.specs.Try.{◌>>=◌, ◌>>◌, need}
use Rattle.words.specs.Tests.{◌&◌}
use Rattle.rules.specs.Calls.{create_endpoint}
use Rattle.passed.proofs.Stand.{memory_found}
use Rattle.judging_processes.proofs.endpoints.judge_create_endpoint.Goals as goal

pub returns-in_err-c : goal.returns-in_err-c
unfolding create_endpoint ◌>>=◌ ◌>>◌ need ◌&◌
returns-in_err-c c = search rules

pub returns-in_err-m : goal.returns-in_err-m
unfolding create_endpoint ◌>>=◌ ◌>>◌ need ◌&◌
returns-in_err-m c = search rules

pub returns-in_err-p : goal.returns-in_err-p
unfolding create_endpoint ◌>>=◌ ◌>>◌ need ◌&◌
returns-in_err-p c = search rules

pub address_arg-requires-clause-kernel_memory : goal.address_arg-requires-clause-kernel_memory
address_arg-requires-clause-kernel_memory c = memory_found _ _ _ _ c.requires c.memory_arg.ensures c.in_ok-m.was

pub returns-in_err-first : goal.returns-in_err-first
unfolding create_endpoint ◌>>=◌ ◌>>◌ need ◌&◌
returns-in_err-first c = search rules

pub returns : goal.returns
unfolding create_endpoint ◌>>=◌ ◌>>◌ need ◌&◌
returns c = search rules
