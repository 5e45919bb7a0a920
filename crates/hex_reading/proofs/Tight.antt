-- "prove that two results satisfying it are equal": each public function's contract determines its answer, and all that was lent.
use mathlib.Core.Path.{refl, ◌∙◌, ap, sym}
use Rattle.words.specs.Determined.{Determined}
use Rattle.rules.specs.Buffer.{Outcome}
use Rattle.hex_reading.proofs as hex_reading
use Rattle.hex_reading.specs.contracts as contracts

pub read_hex : Determined contracts.read_hex.ended hex_reading.read_hex.Reads.Learnt
read_hex κs a x y v w p q = (ap (λ (o : Outcome). o.reply) (p ∙ sym q), ap (λ (o : Outcome). (tt, (o.buffer, tt))) (p ∙ sym q))

pub lines_taken : Determined contracts.lines_taken.ended hex_reading.lines_taken.Reads.Learnt
lines_taken κs a x y v w p q = (cc, refl)
