-- "prove that two results satisfying it are equal": each public function's contract determines its answer, and all that was lent.
use mathlib.Core.Path.{refl}
use Rattle.words.specs.Determined.{Determined}
use Rattle.judging_endpoints.proofs as judging_endpoints
use Rattle.judging_endpoints.specs.contracts as contracts

pub judge_function : Determined contracts.functions.judge_function.ended judging_endpoints.functions.judge_function.Reads.Learnt
judge_function κs a x y v w p q = (cc, refl)

pub judge_receive : Determined contracts.receive.judge_receive.ended judging_endpoints.receive.judge_receive.Reads.Learnt
judge_receive κs a x y v w p q = (cc, refl)

pub judge_send : Determined contracts.send.judge_send.ended judging_endpoints.send.judge_send.Reads.Learnt
judge_send κs a x y v w p q = (cc, refl)
