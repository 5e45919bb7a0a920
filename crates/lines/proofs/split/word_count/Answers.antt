-- `lines::split::word_count` meets its contract: the words found so far, and those that stand from `at` on.
use mathlib.Core.Path.{ap}
use Prim.Native.Nat.{◌<◌, ◌≤◌}
use native.Mathlib.Omega.{arith}
use lib.ListN.{drop_of_length-le, length}
use borrow.Author.Rules.{rules}
use Rattle.lines.proofs.Finding.{next_none, next_word, progress}
use Rattle.lines.specs.Words.{words_of}
use Rattle.lines.proofs.split.word_count.Goals as goal

pub loop-at-init : goal.loop-at-init
loop-at-init c = (search rules, search rules, omega arith)

pub returns-then-from-line : goal.returns-then-from-line
returns-then-from-line c =
    let a = c.args in
    let l = c.loop-at in
    let s = c.word_after-from in
    let at_end : length a.line.now ≤ s.result.from = omega arith in
    omega (arith, ap length (next_none a.line.now l.at l.invariant.0 s.result s.ensures.value at_end))

pub loop-at-smaller : goal.loop-at-smaller
loop-at-smaller c =
    let a = c.args in
    let l = c.loop-at in
    let s = c.word_after-from in
    let before_end : s.result.from < length a.line.now = omega (arith, s.ensures.inside) in
    omega (arith, progress a.line.now l.at l.invariant.0 s.result s.ensures.value before_end)

pub loop-at-preserved : goal.loop-at-preserved
loop-at-preserved c =
    let a = c.args in
    let l = c.loop-at in
    let s = c.word_after-from in
    let before_end : s.result.from < length a.line.now = omega (arith, s.ensures.inside) in (
      search rules,
      omega (arith, progress a.line.now l.at l.invariant.0 s.result s.ensures.value before_end),
      omega (arith, ap length (next_word a.line.now l.at l.invariant.0 s.result s.ensures.value before_end)),
    )

pub returns : goal.returns
unfolding words_of
returns c =
    let a = c.args in
    omega (arith, ap (λ l. length (words_of l)) (drop_of_length-le a.line.now c.loop-at-test.false))
