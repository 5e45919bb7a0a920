-- `judging_deletions::users::is_user` meets its contract: the tag tells a process, and its two names are compared.
use mathlib.Core.Path.{sym, ◌∙◌}
use Rattle.state.specs.Read.{read}
use Rattle.state.specs.State.{obj_at}
use Rattle.words.specs.Tests.{◌or◌}
use Rattle.judging_deletions.proofs.UserSearch.{user_known, user_none}
use Rattle.judging_deletions.proofs.users.is_user.Goals as goal

pub returns-then-tag_at-ne-PROCESS_TAG : goal.returns-then-tag_at-ne-PROCESS_TAG
returns-then-tag_at-ne-PROCESS_TAG c =
    let a = c.args in let x = obj_at (read a.s.now) a.k in
    sym (user_none x a.o (λ q. c.if-tag_at-ne-PROCESS_TAG.true (c.tag_at.ensures ∙ q)))

pub returns-then-eq : goal.returns-then-eq
unfolding ◌or◌
returns-then-eq c =
    let a = c.args in let x = obj_at (read a.s.now) a.k in
    let known = user_known x a.o (sym c.tag_at.ensures ∙ c.if-tag_at-ne-PROCESS_TAG.false) in
    rw (known, ← c.table_named.ensures, ← c.eq.ensures, c.if-eq.true)

pub returns : goal.returns
unfolding ◌or◌
returns c =
    let a = c.args in let x = obj_at (read a.s.now) a.k in
    let known = user_known x a.o (sym c.tag_at.ensures ∙ c.if-tag_at-ne-PROCESS_TAG.false) in
    rw (known, ← c.table_named.ensures, ← c.eq.ensures, c.if-eq.false, ← c.directory_named.ensures, ← c.eq-2.ensures)
