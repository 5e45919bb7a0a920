-- `audit_rights::rights::rights_ok` meets its contract: the listed tables are as they must be, and the other slots have no entry.
use mathlib.Core.Path.{◌∙◌}
use lib.ListN.{get_or, length}
use borrow.Author.Rules.{rules}
use borrow.Author.Tests.{tests}
use Rattle.std.proofs.lemmas.Iterator.{YieldsList-from_slice}
use Rattle.std.proofs.lemmas.Iterator.Search.{all_from_yields_List}
use Rattle.words.specs.Fields.{slot}
use Rattle.words.specs.Tests.{all_below}
use Rattle.words.proofs.Tests.{all_zero}
use Rattle.state.specs.Read.{read}
use Rattle.state.specs.State.{Object, entries_in, place_at, places_of}
use Rattle.rules.specs.WellFormed.{every_place, right}
use Rattle.audit_objects.proofs.Listed.{all_heads}
use Rattle.audit_rights.specs.ButChain.{right_but_chain}
use Rattle.audit_rights.specs.Names.{None, Slot}
use Rattle.audit_rights.proofs.rights.rights_ok.Goals as goal

pub returns : goal.returns
unfolding every_place
returns c =
    let a = c.args in
    let st = read a.s.now in
    all_from_yields_List (λ k. all_below (entries_in st (slot k)) (λ e. right (right_but_chain st) (place_at st (slot k) e))) _ _ _ c.all.ensures.ran
    (YieldsList-from_slice a.heads.now cc) (λ x b q k. search (rules, tests))
    ∙ all_heads a.s.now a.heads.now c.requires.2 (λ (k : Slot) (o : Object). all_below (length (places_of o)) (λ e. right (right_but_chain st) (get_or (places_of o) e None)))
    (λ k. all_zero _) (λ k f. all_zero _)
