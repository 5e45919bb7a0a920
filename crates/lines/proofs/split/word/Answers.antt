-- `lines::split::word` meets its contract: word k of the line is the word that many places on from `at` as turns are left.
use mathlib.Core.List.{[]}
use mathlib.Core.Path.{◌≡◌, sym, ap, ◌∙◌}
use Prim.Native.Nat.{ℕ, suc, ◌-◌, ◌+◌}
use native.Mathlib.Omega.{arith}
use lib.ListN.{drop, get_or}
use borrow.Author.Rules.{rules}
use Rattle.lines.proofs.Finding.{word_here, word_later}
use Rattle.lines.specs.Words.{words_of}
use Rattle.lines.proofs.split.word.Goals as goal

pub loop-preserved : goal.loop-preserved
loop-preserved c =
    let a = c.args in
    let l = c.loop in
    let s = c.word_after-at in
    let one_less : a.k - l.counter ≡ suc (a.k - (l.counter + 1)) = omega arith in (
      search rules,
      omega arith,
      l.invariant.2 ∙ ap (λ (n : ℕ). get_or (words_of (drop l.at a.line.now)) n []) one_less
          ∙ word_later a.line.now l.at l.invariant.0 s.result s.ensures.value (a.k - (l.counter + 1)),
    )

pub returns : goal.returns
returns c =
    let a = c.args in
    let l = c.loop in
    let s = c.word_after-from in
    let none : a.k - l.counter ≡ 0 = omega arith in
    sym (l.invariant.2 ∙ rw none (word_here a.line.now l.at l.invariant.0 s.result s.ensures.value))
