-- `audit_roots::count_all` meets its contract: the counts have the listed tables passed, and there is no other table.
use mathlib.Core.Path.{sym, ◌≡◌}
use native.Mathlib.Omega.{arith}
use lib.ListN.{length}
use Rattle.state.specs.Read.{read}
use Rattle.audit_roots.specs.Roots.{most_roots}
use Rattle.audit_roots.proofs.Counting.{counts_next, counts_same, counts_upto, listed_all, listed_most, listed_next, listed_none}
use Rattle.audit_roots.proofs.count_all.Goals as goal

pub loop-k-init : goal.loop-k-init
loop-k-init c = let a = c.args in counts_same _ _ _ c.requires.3 (listed_none (read a.s.now) a.heads.now)

pub count_slot-requires : goal.count_slot-requires
count_slot-requires c =
    let l = c.loop-k in
    let pre = c.requires in
    (pre.0, pre.1, counts_upto _ _ most_roots l.invariant (λ k h. omega (arith, listed_most _ pre.1 c.args.heads.now l.k-index k, pre.2.heads.few)))

pub loop-k-preserved : goal.loop-k-preserved
loop-k-preserved c =
    let l = c.loop-k in
    let a = c.args in
    counts_next _ _ _ _ _ l.invariant c.count_slot.ensures (λ k. sym (listed_next (read a.s.now) a.heads.now l.k-index k))

pub returns : goal.returns
returns c =
    let l = c.loop-k in
    let done : l.k-index ≡ length c.args.heads.now = omega arith in
    counts_same _ _ _ (rw done at l.invariant) (listed_all _ _ c.requires.2)
