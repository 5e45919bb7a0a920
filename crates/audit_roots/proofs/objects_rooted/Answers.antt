-- `audit_roots::objects_rooted` meets its contract: each listed slot is asked in turn, and of the others nothing is asked.
use mathlib.Core.Path.{refl, ◌∙◌}
use borrow.Author.Rules.{rules}
use borrow.Author.Tests.{tests}
use Rattle.std.proofs.lemmas.Iterator.{YieldsList-from_slice}
use Rattle.std.proofs.lemmas.Iterator.Search.{all_from_yields_List}
use Rattle.words.specs.Fields.{slot}
use Rattle.state.specs.Read.{read}
use Rattle.state.specs.State.{obj_at}
use Rattle.rules.specs.WellFormed.{every_object, one_root}
use Rattle.audit_objects.proofs.Listed.{all_heads}
use Rattle.audit_roots.proofs.objects_rooted.Goals as goal

pub returns : goal.returns
unfolding every_object one_root
returns c =
    let a = c.args in
    let st = read a.s.now in
    all_from_yields_List (λ k. one_root st (slot k) (obj_at st (slot k))) _ _ _ c.all.ensures.ran (YieldsList-from_slice a.heads.now cc) (λ x b q k. search (rules, tests))
    ∙ all_heads a.s.now a.heads.now c.requires.1 (one_root st) (λ k. refl) (λ k f. refl)
