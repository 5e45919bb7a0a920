-- "prove that two results satisfying it are equal": each public function's contract determines its answer, and all that was lent.
use mathlib.Core.Path.{refl}
use Rattle.words.specs.Determined.{Determined}
use Rattle.judging_pages.proofs as judging_pages
use Rattle.judging_pages.specs.contracts as contracts

pub judge_construct : Determined contracts.construct.judge_construct.ended judging_pages.construct.judge_construct.Reads.Learnt
judge_construct κs a x y v w p q = (cc, refl)

pub judge_destruct : Determined contracts.destruct.judge_destruct.ended judging_pages.destruct.judge_destruct.Reads.Learnt
judge_destruct κs a x y v w p q = (cc, refl)

pub judge_map_page : Determined contracts.map_page.judge_map_page.ended judging_pages.map_page.judge_map_page.Reads.Learnt
judge_map_page κs a x y v w p q = (cc, refl)

pub is_child : Determined contracts.positions.is_child.ended judging_pages.positions.is_child.Reads.Learnt
is_child κs a x y v w p q = (cc, refl)

pub judge_remove_page : Determined contracts.remove_page.judge_remove_page.ended judging_pages.remove_page.judge_remove_page.Reads.Learnt
judge_remove_page κs a x y v w p q = (cc, refl)
