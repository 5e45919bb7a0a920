-- `audit_layout::layout::laid_out` meets its contract: what is left of the layout from each slot on decides it.
use Rattle.std.proofs.Common.{ap, arith, length, sym, ℕ, ◌+◌, ◌-◌, ◌<◌, ◌∙◌}
use Rattle.audit_layout.proofs.Lay.{lay_from, lay_start, lay_none, lay_new, lay_more, lay_stops, lay_vacant}
use Rattle.audit_entries.proofs.Vacant.{vacant_free}
use Rattle.state.specs.Read.{read}
use Rattle.state.proofs.Look.{slots_length}
use Rattle.audit_layout.proofs.layout.laid_out.Goals as goal
use Rattle.audit_layout.proofs.layout.laid_out.Goals.{then-owed-eq0+in-Some, else-owed-eq0+else-not-goes_on}

pub loop-k-init : goal.loop-k-init
loop-k-init c = lay_start _

pub returns-in_default : goal.returns-in_default
returns-in_default c =
    let l = c.loop-k in
    let st = read c.args.s.now in
    let in_it : l.k < length st.slots = omega (arith, slots_length c.args.s.now, c.requires.1.few) in
    sym (l.invariant ∙ ap (λ (n : ℕ). lay_from st n l.first.0 l.k) c.if-owed-eq0.true
    ∙ lay_none st l.first.0 l.k in_it (omega (arith, c.size_at.ensures, c.in_default.ensures)))

pub returns-then-not-goes_on : goal.returns-then-not-goes_on
returns-then-not-goes_on c =
    let l = c.loop-k in
    let st = read c.args.s.now in
    let in_it : l.k < length st.slots = omega (arith, slots_length c.args.s.now, c.requires.1.few) in
    sym (l.invariant ∙ lay_stops st l.first.0 l.k in_it l.owed c.if-owed-eq0.false
    (sym c.goes_on.ensures ∙ c.if-not-goes_on.true))

pub loop-k-preserved : goal.loop-k-preserved
loop-k-preserved c =
    let l = c.loop-k in
    let st = read c.args.s.now in
    let in_it : l.k < length st.slots = omega (arith, slots_length c.args.s.now, c.requires.1.few) in
    l.invariant ∙ elim c.if-owed-eq0.branch [
      | then-owed-eq0+in-Some w ↦
          let rest = w.in-Some.ensures in
          ap (λ (n : ℕ). lay_from st n l.first.0 l.k) w.if-owed-eq0.true
          ∙ lay_new st l.first.0 l.k in_it w.size_at.result (sym w.size_at.ensures) (λ z. omega (arith, rest.0))
          ∙ (λ i. lay_from st (sym (w.owed-is ∙ rest.1) i) (sym w.first-is i).0 (l.k + 1))
      | else-owed-eq0+else-not-goes_on w ↦
          lay_more st l.first.0 l.k in_it l.owed w.if-owed-eq0.false (sym w.goes_on.ensures ∙ w.if-not-goes_on.false)
          ∙ (λ i. lay_from st (sym w.owed-is i) (sym w.first-is i).0 (l.k + 1))
    ]

pub returns : goal.returns
returns c =
    let l = c.loop-k in
    sym (l.invariant ∙ lay_vacant (read c.args.s.now) (256 - l.k) l.owed l.first.0 l.k (omega (arith, slots_length c.args.s.now, c.requires.1.few))
    (λ j h i. vacant_free c.args.s.now c.args.n c.requires.1 j (omega arith) (omega (arith, slots_length c.args.s.now))))
