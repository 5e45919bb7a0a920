-- `boot::store_rights` meets its contract: each turn enters one root more.
use mathlib.Core.Path.{◌≡◌, refl, ap, ◌∙◌}
use Prim.Native.Nat.{ℕ}
use native.Mathlib.Omega.{arith}
use native.Mathlib.Numerals.{add-one}
use borrow.Author.Rules.{rules}
use Rattle.boot.specs.Stages.{with_rights, with_roots}
use Rattle.boot.proofs.store_rights.Goals as goal

pub loop-e-init : goal.loop-e-init
unfolding with_roots
loop-e-init c = (refl, c.requires)

pub loop-e-preserved : goal.loop-e-preserved
unfolding with_roots
loop-e-preserved c = (rw (c.store_place.ensures, c.root_right.ensures, c.loop-e.invariant.0, add-one c.loop-e.e) refl, search rules)

pub returns : goal.returns
unfolding with_rights
returns c = let e : c.loop-e.e ≡ 6 = omega arith in c.loop-e.invariant.0 ∙ ap (λ (n : ℕ). with_roots n c.args.s.now) e
