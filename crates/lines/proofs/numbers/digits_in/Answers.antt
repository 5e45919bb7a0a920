-- `lines::numbers::digits_in` meets its contract: what is left to read, after the value so far, decides the whole.
use mathlib.Core.Path.{◌≡◌, sym, ◌∙◌}
use Prim.Native.Nat.{ℕ, ◌≤◌, ◌<◌}
use native.Mathlib.Nat.{min-le_right}
use native.Mathlib.Omega.{arith}
use lib.ListN.{get_or, length}
use borrow.Author.Rules.{rules}
use borrow.Author.Tests.{le-leb, lt-leb}
use Rattle.std.specs.Prelude.{Result, Ok, Err}
use Rattle.std.specs.Result.{OkIff, result_or}
use Rattle.digits.specs.Digits.{digit_of}
use Rattle.lines.proofs.Digits.{digits_more, digits_bad, digits_end, some_digits, no_digits}
use Rattle.lines.specs.Names.{NumberFault, TooLarge}
use Rattle.lines.specs.Numbers.{sized}
use Rattle.lines.proofs.numbers.digits_in.Goals as goal

pub returns-then-is_empty : goal.returns-then-is_empty
returns-then-is_empty c =
    let a = c.args in
    let none : length a.text.now ≤ 0 = search rules in
    sym (no_digits a.base a.text.now 0 none)

pub loop-b-init : goal.loop-b-init
loop-b-init c =
    let a = c.args in
    let some : 0 < length a.text.now = search rules in
    (omega arith, some_digits a.base a.text.now 0 some)

pub returns-then-base-d : goal.returns-then-base-d
returns-then-base-d c =
    let a = c.args in
    let l = c.loop-b in
    let bad : a.base ≤ digit_of (get_or a.text.now l.b-index 0) = omega arith in
    sym (l.invariant.1 ∙ digits_bad a.base l.v a.text.now l.b-index c.loop-b-test.true bad)

pub loop-b-preserved : goal.loop-b-preserved
loop-b-preserved c =
    let a = c.args in
    let l = c.loop-b in
    let m = c.min-v in
    let good : digit_of (get_or a.text.now l.b-index 0) < a.base = omega arith in (
      rw m.ensures (min-le_right _ _),
      l.invariant.1
          ∙ digits_more a.base l.v a.text.now l.b-index c.requires.0 c.loop-b-test.true good
          ∙ rw (m.ensures, c.from-d.ensures, c.digit.ensures),
    )

ended : {E : Type 0} (t : Result ℕ E) (v : ℕ) → OkIff t (v < 4294967296) v → result_or {D = NumberFault} t (Err TooLarge) ≡ sized v
ended (Ok x) v h = rw (h.1, le-leb v 4294967295 (omega (arith, h.0)))
ended (Err e) v h = rw (lt-leb v 4294967295 (omega (arith, h)))

pub returns : goal.returns
returns c =
    let a = c.args in
    let l = c.loop-b in
    c.or.ensures
    ∙ ended c.try_from.result l.v c.try_from.ensures
    ∙ sym (l.invariant.1 ∙ digits_end a.base l.v a.text.now l.b-index c.loop-b-test.false)
