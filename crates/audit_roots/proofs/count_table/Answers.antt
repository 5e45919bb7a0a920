-- `audit_roots::count_table` meets its contract: the counts have the entries passed, which are few.
use mathlib.Core.Path.{◌≡◌}
use Prim.Native.Nat.{◌*◌, ◌+◌}
use native.Mathlib.Omega.{arith}
use Rattle.state.specs.Read.{place_of}
use Rattle.words.specs.Sizes.{place_count}
use Rattle.audit_roots.specs.Roots.{most_roots}
use Rattle.audit_roots.proofs.Counting.{among_most, among_next, counts_next, counts_upto, none_yet}
use Rattle.audit_roots.proofs.count_table.Goals as goal

pub loop-e-init : goal.loop-e-init
loop-e-init c = none_yet _ _ c.requires.2.long

pub count_entry-requires : goal.count_entry-requires
count_entry-requires c =
    let l = c.loop-e in (
      omega (arith, c.requires.0, c.loop-e-test.true),
      counts_upto _ _ (most_roots + place_count) l.invariant (λ k h. omega (arith, c.requires.2.most k h, among_most (λ i. place_of c.args.p.now (32 * i)) l.e k, c.requires.1)),
    )

pub loop-e-preserved : goal.loop-e-preserved
loop-e-preserved c =
    let l = c.loop-e in
    let a = c.args in
    counts_next _ _ _ _ _ l.invariant c.count_entry.ensures (λ k. rw (among_next (λ i. place_of a.p.now (32 * i)) l.e k) (omega arith))

pub returns : goal.returns
returns c =
    let l = c.loop-e in
    let done : l.e ≡ c.args.n = omega arith in
    rw (← done) l.invariant
