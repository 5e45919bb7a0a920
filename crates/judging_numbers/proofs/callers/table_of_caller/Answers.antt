-- `judging_numbers::callers::table_of_caller` meets its contract: the tag tells whether a process stands in the caller's slot.
use mathlib.Core.Path.{sym, ◌∙◌}
use Rattle.state.specs.Read.{read}
use Rattle.state.specs.State.{obj_at}
use Rattle.judging_numbers.proofs.CallerTable.{caller_known, caller_none}
use Rattle.judging_numbers.proofs.callers.table_of_caller.Goals as goal

pub returns-then-tag_at-ne-PROCESS_TAG : goal.returns-then-tag_at-ne-PROCESS_TAG
returns-then-tag_at-ne-PROCESS_TAG c =
    let a = c.args in
    sym (caller_none (obj_at (read a.s.now) a.k) (λ x. c.if-tag_at-ne-PROCESS_TAG.true (c.tag_at.ensures ∙ x)))

pub returns : goal.returns
returns c =
    let a = c.args in
    let tag = sym c.tag_at.ensures ∙ c.if-tag_at-ne-PROCESS_TAG.false in
    rw c.table_named.ensures (sym (caller_known (obj_at (read a.s.now) a.k) tag))
