-- "Every public function has a statement that determines its answer and the whole buffer afterwards, refusals too; prove that two results
-- satisfying it are equal." Said of a contract itself: of what the toolchain reads off a function's clauses (`Reads.Learnt`: all that a
-- caller learns of the answer and of the parameters at the end), at the function's own signature (`ended`).
use Rattle.std.specs.Prelude.{◌≡◌}
use contract.Lifetimes.{Lfts}
use denote.Triple.Clauses.{Ended, Lasts, AtExit, at_exit}
use denote.Triple.Entry.{Args, Res}

module _ (T : Ended) where
  abbrev pub Statement : Type 1
  Statement = (κs : Lfts T.signature.lifetimes) → Args T.signature κs → Res T.signature κs → AtExit T κs → Type 0

  -- from the same arguments: two answers x and y, and v and w, what everything lent to be written holds at the end
  abbrev pub Determined : Statement → Type 0
  Determined P =
      (κs : Lfts T.signature.lifetimes) (a : Args T.signature κs) (x y : Res T.signature κs) (v w : Lasts T κs a)
      → P κs a x (at_exit T κs a v) → P κs a y (at_exit T κs a w) → (x ≡ y) × (v ≡ w)

  -- the same of an answer that is a part of what was lent: of what it shows, which is all that can be read of it
  abbrev pub DeterminedAs : {S : Type 0} → ((κs : Lfts T.signature.lifetimes) → Res T.signature κs → S) → Statement → Type 0
  DeterminedAs shown P =
      (κs : Lfts T.signature.lifetimes) (a : Args T.signature κs) (x y : Res T.signature κs) (v w : Lasts T κs a)
      → P κs a x (at_exit T κs a v) → P κs a y (at_exit T κs a w) → (shown κs x ≡ shown κs y) × (v ≡ w)
