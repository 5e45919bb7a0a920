-- "prove that two results satisfying it are equal": the contract determines the answer, and the whole lent text.
use mathlib.Core.Path.{◌∙◌, ap, sym}
use Rattle.words.specs.Determined.{Determined}
use Rattle.intel_hex.specs.Outcomes.{TextOutcome}
use Rattle.hex_writing.proofs as hex_writing
use Rattle.hex_writing.specs.contracts as contracts

pub write_hex : Determined contracts.write_hex.ended hex_writing.write_hex.Reads.Learnt
write_hex κs a x y v w p q = (ap (λ (o : TextOutcome). o.reply) (p ∙ sym q), ap (λ (o : TextOutcome). (tt, (o.text, tt))) (p ∙ sym q))
