-- `lines::numbers::number_in` meets its contract: its pattern is the test `hexadecimal`.
use mathlib.Core.Path.{◌≡◌}
use native.Mathlib.Omega.{arith}
use lib.ListN.{get_or}
use borrow.Author.Rules.{rules}
use borrow.Author.Tests.{eq-eqb}
use Rattle.std.proofs.lemmas.Grind.{common_steps}
use Rattle.words.specs.Tests.{◌&◌}
use Rattle.lines.proofs.numbers.number_in.Goals as goal

pub returns-in-48 : goal.returns-in-48
unfolding ◌&◌
returns-in-48 c =
    let t = c.args.text.now in
    let zero : get_or t 0 0 ≡ 48 = search rules in
    let x : get_or t 1 0 ≡ 120 = search rules in
    rw (c.digits_in.ensures, eq-eqb _ _ zero, eq-eqb _ _ x) (grind (arith, common_steps))

pub returns-in_default : goal.returns-in_default
unfolding ◌&◌
returns-in_default c = grind (arith, common_steps)
