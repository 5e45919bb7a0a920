-- `audit_chains::chains_ok` meets its contract: each listed table is asked in turn, with no mark at first, and the other slots have no entry.
use mathlib.Core.Path.{refl, sym, ◌∙◌, ◌≡◌}
use native.Mathlib.Numerals.{add-one}
use native.Mathlib.Omega.{arith}
use lib.ListN.{length}
use Rattle.words.proofs.Tests.{all_more, all_not, all_zero}
use Rattle.audit_chains.proofs.Table.{listed_chained}
use Rattle.audit_chains.proofs.Walk.{shown_none}
use Rattle.audit_chains.proofs.chains_ok.Goals as goal

pub invariant_of-marked : goal.invariant_of-marked
invariant_of-marked c = record { ready = c.requires.0; shown = shown_none _ }

pub loop-k-init : goal.loop-k-init
loop-k-init c = (refl, all_zero _)

pub returns-then-not-slot_chained : goal.returns-then-not-slot_chained
returns-then-not-slot_chained c =
    let l = c.loop-k in
    let told = rw l.invariant.0 at c.slot_chained.ensures.told in
    sym
    (sym (listed_chained c.args.s.now c.args.heads.now c.requires.1)
    ∙ all_not (length c.args.heads.now) _ l.k-index c.loop-k-test.true (sym told ∙ c.if-not-slot_chained.true))

pub loop-k-preserved : goal.loop-k-preserved
loop-k-preserved c =
    let l = c.loop-k in
    let told = rw l.invariant.0 at c.slot_chained.ensures.told in (
      rw c.slot_chained.ensures.state l.invariant.0,
      rw (add-one l.k-index) (all_more l.k-index _ l.invariant.1 (sym told ∙ c.if-not-slot_chained.false)),
    )

pub returns : goal.returns
returns c =
    let l = c.loop-k in
    let e : l.k-index ≡ length c.args.heads.now = omega arith in
    sym (sym (listed_chained c.args.s.now c.args.heads.now c.requires.1) ∙ rw e at l.invariant.1)
