-- "prove that two results satisfying it are equal": these functions answer nothing but that a write failed, and nothing is lent to them to
-- be written. What they print no contract can say.
use Rattle.std.proofs.Common.{refl, IsOk}
use Rattle.std.specs.declared.io.Print.{Ghosts}
use Rattle.rows.proofs.Fine.{fine_same}
use Rattle.rows.specs.Settled.{Settled}
use Rattle.rows.proofs as rows
use Rattle.rows.specs.contracts as contracts
use denote.Param.Laws.{Laws}
use denote.RattleType.{RattleType}
use mir.Syntax.{Dict}

pub say_row : (T : RattleType) (L : Laws T) (G : Ghosts T.Denot) (d : Dict)
    → Settled (contracts.say_row.ended T G d) (λ κs x. IsOk x) (rows.say_row.Reads.Learnt T L G d)
say_row T L G d κs a x y v w p q = (fine_same x y, refl)

pub say_form : (T : RattleType) (L : Laws T) (G : Ghosts T.Denot) (d : Dict)
    → Settled (contracts.say_form.ended T G d) (λ κs x. IsOk x) (rows.say_form.Reads.Learnt T L G d)
say_form T L G d κs a x y v w p q = (fine_same x y, refl)
