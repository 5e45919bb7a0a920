-- `judging_places::addresses::address_arg` meets its contract: each return is the rule's, step by step.
use Rattle.std.proofs.Common.{rules, sym, ◌∙◌, arith}
use Rattle.words.specs.Try.{◌>>=◌, ◌>>◌, need}
use Rattle.words.specs.Tests.{◌&◌}
use Rattle.rules.specs.Addresses.{address_arg}
use Rattle.judging_places.proofs.Lying.{lies_open}
use Rattle.judging_places.proofs.addresses.address_arg.Goals as goal

pub returns-then-not-lies_in : goal.returns-then-not-lies_in
unfolding address_arg ◌>>=◌ ◌>>◌ need ◌&◌
returns-then-not-lies_in c = search rules

pub overflow_sub-k : goal.overflow_sub-k
overflow_sub-k c =
    let lies = lies_open c.args.m c.args.a c.args.n (sym c.lies_in.ensures ∙ c.if-not-lies_in.false) in
    omega arith

pub overflow_cast-k : goal.overflow_cast-k
overflow_cast-k c =
    let lies = lies_open c.args.m c.args.a c.args.n (sym c.lies_in.ensures ∙ c.if-not-lies_in.false) in
    omega arith

pub returns-then-not-all_free : goal.returns-then-not-all_free
unfolding address_arg ◌>>=◌ ◌>>◌ need ◌&◌
returns-then-not-all_free c = search rules

pub returns : goal.returns
unfolding address_arg ◌>>=◌ ◌>>◌ need ◌&◌
returns c = search rules
