-- `audit::well_formed` meets its contract: the parts in their order are the rule, and each has shown what the next ones ask for.
use mathlib.Core.Bool.{false≢true}
use mathlib.Core.Path.{sym, ◌∙◌}
use borrow.Author.Tests.{eq-eqb, ne_eqb}
use Rattle.words.proofs.Tests.{and_no, and_yes}
use Rattle.audit.proofs.Order.{in_order}
use Rattle.audit.proofs.Ready.{chains_ready, listed_heads, roots_ready}
use Rattle.audit.proofs.well_formed.Goals as goal
use Rattle.audit.proofs.well_formed.Goals.{then-not-laid_out-via-then-not-laid_out, then-not-laid_out-via-else-not-laid_out+then-not-canonical}
use Rattle.audit.proofs.well_formed.Goals.{then-objects_ok, else-objects_ok, then-rights_ok, else-rights_ok}

pub returns-then-s-ne-STATE_LENGTH : goal.returns-then-s-ne-STATE_LENGTH
returns-then-s-ne-STATE_LENGTH c = sym (in_order c.args.s.now c.shared_slice_known-1.given ∙ and_no _ _ (ne_eqb _ _ c.if-s-ne-STATE_LENGTH.true))

pub laid_out-requires : goal.laid_out-requires
laid_out-requires c = (c.if-s-ne-STATE_LENGTH.false, c.used-n.ensures.vacant)

pub canonical-requires : goal.canonical-requires
canonical-requires c = (c.if-s-ne-STATE_LENGTH.false, sym c.laid_out.ensures ∙ c.if-not-laid_out.false, c.used-n.ensures.vacant)

pub returns-then-not-laid_out : goal.returns-then-not-laid_out
returns-then-not-laid_out c =
    let order = in_order c.args.s.now c.shared_slice_known-1.given ∙ and_yes _ _ (eq-eqb _ _ c.if-s-ne-STATE_LENGTH.false) in
    elim c.then-not-laid_out.branch [
      | then-not-laid_out-via-then-not-laid_out w ↦ sym (order ∙ and_no _ _ (sym c.laid_out.ensures ∙ w.if-not-laid_out.true))
      | then-not-laid_out-via-else-not-laid_out+then-not-canonical w ↦
          sym (order ∙ and_yes _ _ (sym c.laid_out.ensures ∙ w.if-not-laid_out.false) ∙ and_no _ _ (sym w.canonical.ensures ∙ w.if-not-canonical.true))
    ]

pub objects_ok-requires : goal.objects_ok-requires
objects_ok-requires c =
    let laid = sym c.laid_out.ensures ∙ c.if-not-laid_out.false in
    (c.if-s-ne-STATE_LENGTH.false, laid, listed_heads _ _ _ _ c.list_heads-m.ensures)

pub rights_ok-requires : goal.rights_ok-requires
rights_ok-requires c =
    let laid = sym c.laid_out.ensures ∙ c.if-not-laid_out.false in
    (c.if-s-ne-STATE_LENGTH.false, laid, listed_heads _ _ _ _ c.list_heads-m.ensures)

pub roots_ok-requires : goal.roots_ok-requires
roots_ok-requires c =
    let laid = sym c.laid_out.ensures ∙ c.if-not-laid_out.false in
    let yes = c.if-rights_ok.true in
    elim c.if-objects_ok.branch [
      | then-objects_ok w ↦ (roots_ready c.args.s.now c.if-s-ne-STATE_LENGTH.false laid (sym w.rights_ok.ensures ∙ sym w.value-is ∙ yes), listed_heads _ _ _ _ c.list_heads-m.ensures)
      | else-objects_ok w ↦ absurd (false≢true (sym w.if-objects_ok.false ∙ sym w.value-is ∙ yes))
    ]

pub chains_ok-requires : goal.chains_ok-requires
chains_ok-requires c =
    let laid = sym c.laid_out.ensures ∙ c.if-not-laid_out.false in
    elim c.if-rights_ok.branch [
      | then-rights_ok v ↦ elim c.if-objects_ok.branch [
        | then-objects_ok w ↦ (chains_ready c.args.s.now c.if-s-ne-STATE_LENGTH.false laid (sym w.rights_ok.ensures ∙ sym w.value-is ∙ v.if-rights_ok.true), listed_heads _ _ _ _ c.list_heads-m.ensures)
        | else-objects_ok w ↦ absurd (false≢true (sym w.if-objects_ok.false ∙ sym w.value-is ∙ v.if-rights_ok.true))
      ]
      | else-rights_ok v ↦ absurd (false≢true (sym v.if-rights_ok.false ∙ sym v.value-is ∙ c.if-roots_ok.true))
    ]

pub returns-then-roots_ok : goal.returns-then-roots_ok
returns-then-roots_ok c =
    let laid = sym c.laid_out.ensures ∙ c.if-not-laid_out.false in
    let clean = sym c.canonical.ensures ∙ c.if-not-canonical.false in
    let order = in_order c.args.s.now c.shared_slice_known-1.given ∙ and_yes _ _ (eq-eqb _ _ c.if-s-ne-STATE_LENGTH.false) ∙ and_yes _ _ laid ∙ and_yes _ _ clean in
    elim c.if-rights_ok.branch [
      | then-rights_ok v ↦ elim c.if-objects_ok.branch [
        | then-objects_ok w ↦
            let objects = sym c.objects_ok.ensures ∙ w.if-objects_ok.true in
            let rights = sym w.rights_ok.ensures ∙ sym w.value-is ∙ v.if-rights_ok.true in
            let roots = sym v.roots_ok.ensures ∙ sym v.value-is ∙ c.if-roots_ok.true in
            c.chains_ok.ensures ∙ sym (order ∙ and_yes _ _ objects ∙ and_yes _ _ rights ∙ and_yes _ _ roots)
        | else-objects_ok w ↦ absurd (false≢true (sym w.if-objects_ok.false ∙ sym w.value-is ∙ v.if-rights_ok.true))
      ]
      | else-rights_ok v ↦ absurd (false≢true (sym v.if-rights_ok.false ∙ sym v.value-is ∙ c.if-roots_ok.true))
    ]

pub returns-else-roots_ok : goal.returns-else-roots_ok
returns-else-roots_ok c =
    let laid = sym c.laid_out.ensures ∙ c.if-not-laid_out.false in
    let clean = sym c.canonical.ensures ∙ c.if-not-canonical.false in
    let order = in_order c.args.s.now c.shared_slice_known-1.given ∙ and_yes _ _ (eq-eqb _ _ c.if-s-ne-STATE_LENGTH.false) ∙ and_yes _ _ laid ∙ and_yes _ _ clean in
    c.if-roots_ok.false ∙ sym (order ∙ elim c.if-objects_ok.branch [
      | then-objects_ok w ↦
          let objects = sym c.objects_ok.ensures ∙ w.if-objects_ok.true in
          and_yes _ _ objects ∙ elim c.if-rights_ok.branch [
            | then-rights_ok v ↦
                let rights = sym w.rights_ok.ensures ∙ sym w.value-is ∙ v.if-rights_ok.true in
                and_yes _ _ rights ∙ and_no _ _ (sym v.roots_ok.ensures ∙ sym v.value-is ∙ c.if-roots_ok.false)
            | else-rights_ok v ↦ and_no _ _ (sym w.rights_ok.ensures ∙ sym w.value-is ∙ v.if-rights_ok.false)
          ]
      | else-objects_ok w ↦ and_no _ _ (sym c.objects_ok.ensures ∙ w.if-objects_ok.false)
    ])
