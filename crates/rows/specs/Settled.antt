-- What prints can fail at any time, by the system's doing, and no contract says when. So two answers are said to be equal where neither
-- is an error; everything lent to be written holds the same at the end whichever they are.
use Rattle.std.specs.Prelude.{◌≡◌}
use Rattle.words.specs.Determined.{Statement}
use contract.Lifetimes.{Lfts}
use denote.Triple.Clauses.{Ended, Lasts, at_exit}
use denote.Triple.Entry.{Args, Res}

module _ (T : Ended) where
  -- `Fine x` says that the answer x is no error
  abbrev pub Settled : ((κs : Lfts T.signature.lifetimes) → Res T.signature κs → Type 0) → Statement T → Type 0
  Settled Fine P =
      (κs : Lfts T.signature.lifetimes) (a : Args T.signature κs) (x y : Res T.signature κs) (v w : Lasts T κs a)
      → P κs a x (at_exit T κs a v) → P κs a y (at_exit T κs a w) → (Fine κs x → Fine κs y → x ≡ y) × (v ≡ w)
