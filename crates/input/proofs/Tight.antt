-- "prove that two results satisfying it are equal": what reads answers nothing but an error, and nothing is lent to it to be written.
-- What is read no contract can say.
use Rattle.std.proofs.Common.{refl, ◌∙◌, ap, sym, IsOk}
use Rattle.std.specs.declared.convert.From as From
use Rattle.std.specs.declared.io.Error.{Error}
use Rattle.std.specs.declared.io.traits.Read as Read
use Rattle.rows.proofs.Fine.{fine_same}
use Rattle.rows.specs.Settled.{Settled}
use Rattle.words.specs.Determined.{DeterminedAs}
use Rattle.input.proofs as input
use Rattle.input.specs.contracts as contracts
use denote.Param.Laws.{Laws}
use denote.RattleType.{RattleType}
use mir.Syntax.{Dict}

pub each_line : (T : RattleType) (E F : RattleType) (L : Laws T) (M : Laws E) (N : Laws F) (G : Read.Ghosts T.Denot) (d : Dict)
    (H : From.Ghosts E.Denot Error) (e : Dict) (J : contracts.each_line.F-FnMut.Ghosts T E F) (f g h i : Dict)
    → Settled (contracts.each_line.ended T E F G d H e J f g h i) (λ κs x. IsOk x) (input.each_line.Reads.Learnt T E F L M N G d H e J f g h i)
each_line T E F L M N G d H e J f g h i κs a x y v w p q = (fine_same x y, refl)

pub each_nonempty_line : (T : RattleType) (E F : RattleType) (L : Laws T) (M : Laws E) (N : Laws F) (G : Read.Ghosts T.Denot) (d : Dict)
    (H : From.Ghosts E.Denot Error) (e : Dict) (J : contracts.each_nonempty_line.F-FnMut.Ghosts T E F) (f g h i : Dict)
    → Settled (contracts.each_nonempty_line.ended T E F G d H e J f g h i) (λ κs x. IsOk x) (input.each_nonempty_line.Reads.Learnt T E F L M N G d H e J f g h i)
each_nonempty_line T E F L M N G d H e J f g h i κs a x y v w p q = (fine_same x y, refl)

pub word : DeterminedAs contracts.fields.Fields.word.ended (λ κs x. x.now) input.fields.Fields.word.Reads.Learnt
word κs a x y v w p q =
    (cc, ap (λ l. (record { line = l; at = v.0.at }, v.1)) (p.1.0 ∙ sym q.1.0) ∙ ap (λ n. (record { line = w.0.line; at = n }, v.1)) (p.1.1 ∙ sym q.1.1))
