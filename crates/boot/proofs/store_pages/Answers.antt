-- `boot::store_pages` meets its contract. The loop's invariant: the first i pages are stored.
use mathlib.Core.Path.{◌≡◌, refl, ap, ◌∙◌}
use Prim.Native.Nat.{ℕ}
use native.Mathlib.Omega.{arith}
use native.Mathlib.Numerals.{add-one}
use borrow.Author.Rules.{rules}
use Rattle.boot.specs.Stages.{with_pages}
use Rattle.boot.proofs.store_pages.Goals as goal

pub loop-i-init : goal.loop-i-init
unfolding with_pages
loop-i-init c = (refl, search rules)

pub store_position-requires : goal.store_position-requires
store_position-requires c = rw c.page_of.ensures (search rules)

pub loop-i-preserved : goal.loop-i-preserved
unfolding with_pages
loop-i-preserved c = (rw (c.store_position.ensures, c.page_of.ensures, c.loop-i.invariant.0, add-one c.loop-i.i) refl, search rules)

pub returns : goal.returns
returns c = let e : c.loop-i.i ≡ 8 = omega arith in c.loop-i.invariant.0 ∙ ap (λ (n : ℕ). with_pages n c.args.s.now) e
