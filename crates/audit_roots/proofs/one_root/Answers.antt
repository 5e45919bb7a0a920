-- `audit_roots::one_root` meets its contract: what stands there is counted under its first slot.
use mathlib.Core.Path.{refl}
use native.Mathlib.Omega.{arith}
use borrow.Author.Rules.{rules}
use Rattle.std.proofs.lemmas.Grind.{common_steps}
use Rattle.state.specs.Read.{read}
use Rattle.state.specs.State.{obj_at}
use Rattle.audit_roots.proofs.Named.{none_owed, one_owed}
use Rattle.audit_roots.proofs.one_root.Goals as goal

pub returns-then-tag_at-lt-TABLE_TAG : goal.returns-then-tag_at-lt-TABLE_TAG
returns-then-tag_at-lt-TABLE_TAG c = rw (none_owed (read c.args.s.now) c.args.k (obj_at (read c.args.s.now) c.args.k) (omega (arith, c.tag_at.ensures))) (grind (arith, common_steps))

pub returns-else-tag_at-lt-TABLE_TAG : goal.returns-else-tag_at-lt-TABLE_TAG
returns-else-tag_at-lt-TABLE_TAG c =
    let a = c.args in
    let pre = c.requires in
    rw (pre.1.each_count a.k.0 (search rules)) (one_owed (read a.s.now) pre.0.rights a.k (search rules) (obj_at (read a.s.now) a.k) refl (omega (arith, c.tag_at.ensures)))
