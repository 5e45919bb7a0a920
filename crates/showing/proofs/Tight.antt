-- "prove that two results satisfying it are equal": the function answers nothing but that a write failed, and nothing is lent to it to be
-- written. What it prints no contract can say.
use Rattle.std.proofs.Common.{refl, IsOk}
use Rattle.std.specs.declared.io.Print.{Ghosts}
use Rattle.rows.proofs.Fine.{fine_same}
use Rattle.rows.specs.Settled.{Settled}
use Rattle.showing.proofs as showing
use Rattle.showing.specs.contracts as contracts
use denote.Param.Laws.{Laws}
use denote.RattleType.{RattleType}
use mir.Syntax.{Dict}

pub show : (T : RattleType) (L : Laws T) (G : Ghosts T.Denot) (d : Dict)
    → Settled (contracts.show.ended T G d) (λ κs x. IsOk x) (showing.show.Reads.Learnt T L G d)
show T L G d κs a x y v w p q = (fine_same x y, refl)
