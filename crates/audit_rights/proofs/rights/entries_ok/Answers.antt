-- `audit_rights::rights::entries_ok` meets its contract: each entry is asked in turn.
use mathlib.Core.Path.{refl, ◌∙◌}
use native.Mathlib.Omega.{arith}
use Prim.Native.Nat.{◌*◌}
use borrow.Author.Rules.{rules}
use borrow.Author.Tests.{tests}
use Rattle.std.proofs.lemmas.Iterator.{YieldsList-from_range}
use Rattle.std.proofs.lemmas.Iterator.Search.{all_from_yields_List}
use Rattle.state.specs.Read.{place_of, read}
use Rattle.rules.specs.WellFormed.{right}
use Rattle.words.specs.Sizes.{entry_size}
use Rattle.audit_objects.proofs.Listed.{all_numbers}
use Rattle.audit_rights.specs.ButChain.{right_but_chain}
use Rattle.audit_rights.proofs.rights.entries_ok.Goals as goal

pub returns : goal.returns
returns c =
    let a = c.args in
    all_from_yields_List (λ e. right (right_but_chain (read a.s.now)) (place_of a.p.now (entry_size * e))) _ _ _ c.all.ensures.ran
    (YieldsList-from_range 0 a.n a.n refl (omega arith)) (λ x b q k. search (rules, tests))
    ∙ all_numbers _ a.n
