-- `lines::spans::is_blank` meets its contract.
use mathlib.Core.Logic.{◌⊎◌, inl, inr, ◌≢◌}
use mathlib.Core.Path.{◌≡◌}
use mathlib.Core.Bool.{true}
use Prim.Native.Nat.{ℕ}
use borrow.Author.Rules.{rules}
use borrow.Author.Tests.{ne_eqb}
use Rattle.words.specs.Tests.{◌or◌}
use Rattle.lines.specs.Spans.{blank}
use Rattle.lines.proofs.spans.is_blank.Goals as goal

is_one : (b : ℕ) → (b ≡ 9) ⊎ (b ≡ 32) → true ≡ blank b
unfolding ◌or◌
is_one b (inl e) = rw e
is_one b (inr e) = rw e

pub returns-in-32 : goal.returns-in-32
returns-in-32 c =
    let one : (c.args.b ≡ 9) ⊎ (c.args.b ≡ 32) = search rules in
    is_one c.args.b one

pub returns-in_default : goal.returns-in_default
unfolding ◌or◌
returns-in_default c =
    let no_space : c.args.b ≢ 32 = search rules in
    let no_tab : c.args.b ≢ 9 = search rules in
    rw (ne_eqb _ _ no_space, ne_eqb _ _ no_tab)
