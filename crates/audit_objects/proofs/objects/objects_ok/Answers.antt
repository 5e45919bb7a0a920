-- `audit_objects::objects::objects_ok` meets its contract: the listed objects are as they must be, and of the other slots nothing is asked.
use mathlib.Core.Path.{refl, ◌∙◌}
use borrow.Author.Rules.{rules}
use borrow.Author.Tests.{tests}
use Rattle.std.proofs.lemmas.Iterator.{YieldsList-from_slice}
use Rattle.std.proofs.lemmas.Iterator.Search.{all_from_yields_List}
use Rattle.words.specs.Fields.{slot}
use Rattle.state.specs.Read.{read}
use Rattle.state.specs.State.{obj_at}
use Rattle.rules.specs.WellFormed.{object_ok, every_object}
use Rattle.audit_objects.proofs.Listed.{all_heads}
use Rattle.audit_objects.proofs.objects.objects_ok.Goals as goal

pub returns : goal.returns
unfolding every_object object_ok
returns c =
    let a = c.args in
    let st = read a.s.now in
    all_from_yields_List (λ k. object_ok st (slot k) (obj_at st (slot k))) _ _ _ c.all.ensures.ran (YieldsList-from_slice a.heads.now cc) (λ x b q k. search (rules, tests))
    ∙ all_heads a.s.now a.heads.now c.requires.2 (object_ok st) (λ k. refl) (λ k f. refl)
