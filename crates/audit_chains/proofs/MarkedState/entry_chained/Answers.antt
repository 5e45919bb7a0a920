-- `audit_chains::MarkedState::entry_chained` meets its contract: a child's chain is its parent's.
use mathlib.Core.Path.{refl, sym, ◌∙◌}
use native.Mathlib.Omega.{arith}
use Rattle.state.specs.Read.{read}
use Rattle.audit_chains.specs.Chains.{chained, under}
use Rattle.audit_chains.proofs.Entry.{entry_blank, entry_child, entry_root}
use Rattle.audit_chains.proofs.MarkedState.entry_chained.Goals as goal

pub returns-in_default-clause-told : goal.returns-in_default-clause-told
unfolding chained
returns-in_default-clause-told c = sym (entry_root c.args.part.now c.args.at (chained (read c.args.self.now.s.now)) refl c.in_default.ensures.root)

pub returns-then-kind-eq-BLANK-clause-told : goal.returns-then-kind-eq-BLANK-clause-told
unfolding chained
returns-then-kind-eq-BLANK-clause-told c =
    sym (entry_blank c.args.part.now c.args.at (chained (read c.args.self.now.s.now)) (λ m n. omega (arith, c.word_in-kind.ensures)))

pub parent_reaches-requires : goal.parent_reaches-requires
parent_reaches-requires c =
    let child = entry_child c.args.part.now c.args.at (under (read c.args.self.now.s.now)) _ _ c.word_in-kind.ensures c.in-Some.ensures.child
    c.if-kind-eq-BLANK.false c.if-kind-gt-FUNCTION_KIND.false in
    sym child ∙ c.requires.1

pub returns-clause-told : goal.returns-clause-told
unfolding chained
returns-clause-told c =
    let child = entry_child c.args.part.now c.args.at (chained (read c.args.self.now.s.now)) _ _ c.word_in-kind.ensures c.in-Some.ensures.child
    c.if-kind-eq-BLANK.false c.if-kind-gt-FUNCTION_KIND.false in
    c.parent_reaches.ensures.told ∙ sym child
