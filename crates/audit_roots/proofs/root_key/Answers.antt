-- `audit_roots::root_key` meets its contract: the parent word, the kind's word and the object's byte tell the number.
use mathlib.Core.Logic.{inl, inr}
use mathlib.Core.Path.{sym, ◌∙◌}
use native.Mathlib.Omega.{arith}
use Rattle.audit_roots.proofs.Keys.{key_blank, key_child, key_function, key_memory, key_object}
use Rattle.audit_roots.proofs.root_key.Goals as goal

pub returns-then-word_in-ne0-clause-key : goal.returns-then-word_in-ne0-clause-key
returns-then-word_in-ne0-clause-key c = sym (key_child c.args.p.now c.args.at (λ z. c.if-word_in-ne0.true (c.word_in.ensures ∙ z)))

pub returns-in-3-clause-key : goal.returns-in-3-clause-key
returns-in-3-clause-key c = sym (key_memory c.args.p.now c.args.at (sym c.word_in.ensures ∙ c.if-word_in-ne0.false) (sym c.word_in-2.ensures ∙ c.in-3.is))

pub returns-in-6-clause-key : goal.returns-in-6-clause-key
returns-in-6-clause-key c = sym (key_function c.args.p.now c.args.at (sym c.word_in.ensures ∙ c.if-word_in-ne0.false) (sym c.word_in-2.ensures ∙ c.in-6.is))

pub returns-in-1-clause-key : goal.returns-in-1-clause-key
returns-in-1-clause-key c =
    sym
    (key_object c.args.p.now c.args.at (sym c.word_in.ensures ∙ c.if-word_in-ne0.false) (λ z. omega arith) (λ z. omega arith) (λ z. omega arith) (omega arith))

pub returns-in_default-clause-key : goal.returns-in_default-clause-key
returns-in_default-clause-key c = sym (key_blank c.args.p.now c.args.at (inl (omega arith)))

pub returns-in_default-2-clause-key : goal.returns-in_default-2-clause-key
returns-in_default-2-clause-key c = sym (key_blank c.args.p.now c.args.at (inr (omega arith)))
