-- `judging_deletions::children::is_child` meets its contract: two words of the entry tell whether it is a child.
use mathlib.Core.Path.{ap, sym, ◌∙◌}
use Prim.Native.Nat.{ℕ, ◌*◌}
use lib.Dec.{leb}
use borrow.Author.Tests.{lt-ltb}
use native.Mathlib.Omega.{arith}
use Rattle.words.proofs.Tests.{and_no, and_yes}
use Rattle.words.specs.Sizes.{entry_size}
use Rattle.judging_deletions.proofs.ChildWords.{child_words, under_no, under_yes}
use Rattle.judging_deletions.proofs.children.is_child.Goals as goal

pub returns-then-word_at-n : goal.returns-then-word_at-n
returns-then-word_at-n c =
    let a = c.args in
    sym (child_words a.part.now (entry_size * a.e) a.n ∙ and_no _ _ (under_no _ a.n (λ z. c.if-word_at-n.true (c.word_at.ensures ∙ z))))

pub returns-then-kind-eq-BLANK : goal.returns-then-kind-eq-BLANK
returns-then-kind-eq-BLANK c =
    let a = c.args in
    let w = c.word_at.ensures in let k = sym c.word_at-kind.ensures ∙ c.if-kind-eq-BLANK.true in
    sym (child_words a.part.now (entry_size * a.e) a.n ∙ and_yes _ _ (under_yes _ a.n (sym w ∙ c.if-word_at-n.false)) ∙ and_no _ _ (rw k))

pub returns : goal.returns
returns c =
    let a = c.args in
    let w = c.word_at.ensures in let k = c.word_at-kind.ensures in
    ap (λ (x : ℕ). leb x 6) k
    ∙ sym (child_words a.part.now (entry_size * a.e) a.n ∙ and_yes _ _ (under_yes _ a.n (sym w ∙ c.if-word_at-n.false)) ∙ and_yes _ _ (rw (← k) (lt-ltb 0 c.word_at-kind.result (omega arith))))
