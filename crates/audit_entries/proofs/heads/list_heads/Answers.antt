-- `audit_entries::heads::list_heads` meets its contract: the list has the slots passed that have a note of their own.
use mathlib.Core.Path.{◌≡◌}
use Prim.Native.Nat.{◌*◌, ◌+◌, ◌<◌}
use native.Mathlib.Numerals.{add-one}
use native.Mathlib.Omega.{arith}
use lib.ListN.{get_or}
use Rattle.words.specs.Sizes.{memory_length}
use Rattle.audit_entries.specs.Heads.{NoHead}
use Rattle.audit_entries.proofs.Listed.{heads_end, heads_more, heads_none, heads_past}
use Rattle.audit_entries.proofs.Order.{order_end, order_more, order_none, order_past}
use Rattle.audit_entries.proofs.heads.list_heads.Goals as goal
use Rattle.audit_entries.proofs.heads.list_heads.Goals.{then-tag_byte-gt-LATER_TAG, else-tag_byte-gt-LATER_TAG}

pub loop-k-init : goal.loop-k-init
loop-k-init c = (heads_none _ _ c.requires.1, order_none _ _)

pub loop-k-preserved : goal.loop-k-preserved
loop-k-preserved c =
    let l = c.loop-k in
    let b = c.args.s.now in
    elim c.if-tag_byte-gt-LATER_TAG.branch [
      | then-tag_byte-gt-LATER_TAG w ↦
          let t : 1 < get_or b (memory_length + 4 * l.k) 0 = omega (arith, c.tag_byte.ensures, w.if-tag_byte-gt-LATER_TAG.true) in
          rw (w.heads-is, w.m-is, add-one l.m, add-one l.k) (
            heads_more _ _ l.m l.k (omega (arith, c.requires.0.few)) l.invariant.0,
            order_more _ _ _ l.m l.k l.invariant.1 t (omega (arith, c.requires.1, c.requires.0.few, l.invariant.0.few)),
          )
      | else-tag_byte-gt-LATER_TAG w ↦
          let t : NoHead b l.k = omega (arith, c.tag_byte.ensures, w.if-tag_byte-gt-LATER_TAG.false) in
          rw (w.heads-is, w.m-is, add-one l.k) (heads_past _ _ l.m l.k l.invariant.0 t, order_past _ _ _ l.m l.k l.invariant.1 t)
    ]

pub returns : goal.returns
returns c =
    let l = c.loop-k in
    let e : l.k ≡ c.args.n = omega arith in
    let o = order_end _ _ _ _ c.args.n c.requires.0 (rw e at l.invariant.1) in
    record { heads = heads_end _ _ _ c.args.n c.requires.0 (rw e at l.invariant.0); list = o.list; count = o.count }
