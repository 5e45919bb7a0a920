-- `audit_objects::directories::positions_ok` meets its contract: each position is asked in turn.
use mathlib.Core.Path.{refl, ◌∙◌}
use native.Mathlib.Omega.{arith}
use Prim.Native.Nat.{◌*◌, ◌+◌}
use borrow.Author.Rules.{rules}
use borrow.Author.Tests.{tests}
use Rattle.std.proofs.lemmas.Iterator.{YieldsList-from_range}
use Rattle.std.proofs.lemmas.Iterator.Search.{all_from_yields_List}
use Rattle.words.specs.Sizes.{header_size, position_size}
use Rattle.state.specs.Read.{position_of, read}
use Rattle.rules.specs.WellFormed.{position_ok}
use Rattle.audit_objects.proofs.Listed.{all_numbers}
use Rattle.audit_objects.proofs.directories.positions_ok.Goals as goal

pub returns : goal.returns
returns c =
    let a = c.args in
    all_from_yields_List (λ i. position_ok (read a.s.now) a.g (position_of a.p.now (header_size + position_size * i))) _ _ _ c.all.ensures.ran
    (YieldsList-from_range 0 a.n a.n refl (omega arith)) (λ x b q k. search (rules, tests))
    ∙ all_numbers _ a.n
