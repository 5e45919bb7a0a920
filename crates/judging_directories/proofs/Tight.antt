-- "prove that two results satisfying it are equal": each public function's contract determines its answer, and all that was lent.
use mathlib.Core.Path.{refl}
use Rattle.words.specs.Determined.{Determined}
use Rattle.judging_directories.proofs as judging_directories
use Rattle.judging_directories.specs.contracts as contracts

pub judge_create_directory : Determined contracts.create_directory.judge_create_directory.ended judging_directories.create_directory.judge_create_directory.Reads.Learnt
judge_create_directory κs a x y v w p q = (cc, refl)

pub judge_delete_directory : Determined contracts.delete_directory.judge_delete_directory.ended judging_directories.delete_directory.judge_delete_directory.Reads.Learnt
judge_delete_directory κs a x y v w p q = (cc, refl)
