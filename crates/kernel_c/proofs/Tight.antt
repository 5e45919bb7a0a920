-- "prove that two results satisfying it are equal": each public function's contract determines its answer, and all that was lent.
use Rattle.std.proofs.Common.{sym, refl, ap, ◌∙◌}
use Rattle.words.specs.Determined.{Determined}
use Rattle.rules.specs.Buffer.{Outcome}
use Rattle.intel_hex.specs.Outcomes.{TextOutcome}
use Rattle.kernel.specs.Script.{RunResult}
use Rattle.kernel.specs.Grants.{WordsResult}
use Rattle.kernel_c.proofs as kernel_c
use Rattle.kernel_c.specs.contracts as contracts

pub kernel_call : Determined contracts.calls.kernel_call.ended kernel_c.calls.kernel_call.Reads.Learnt
kernel_call κs a x y v w p q = (ap (λ (o : Outcome). o.reply) (p ∙ sym q), ap (λ (o : Outcome). (o.buffer, v.1)) (p ∙ sym q))

pub kernel_read_hex : Determined contracts.firmware.kernel_read_hex.ended kernel_c.firmware.kernel_read_hex.Reads.Learnt
kernel_read_hex κs a x y v w p q = (ap (λ (o : Outcome). o.reply) (p ∙ sym q), ap (λ (o : Outcome). (tt, (o.buffer, tt))) (p ∙ sym q))

pub kernel_hex_lines : Determined contracts.firmware.kernel_hex_lines.ended kernel_c.firmware.kernel_hex_lines.Reads.Learnt
kernel_hex_lines κs a x y v w p q = (cc, refl)

pub kernel_write_hex : Determined contracts.firmware.kernel_write_hex.ended kernel_c.firmware.kernel_write_hex.Reads.Learnt
kernel_write_hex κs a x y v w p q = (ap (λ (o : TextOutcome). o.reply) (p ∙ sym q), ap (λ (o : TextOutcome). (tt, (o.text, tt))) (p ∙ sym q))

pub kernel_pack : Determined contracts.grants.kernel_pack.ended kernel_c.grants.kernel_pack.Reads.Learnt
kernel_pack κs a x y v w p q = (ap (λ (o : WordsResult). o.reply) (p ∙ sym q), ap (λ (o : WordsResult). (tt, (tt, (tt, (o.words, tt))))) (p ∙ sym q))

pub kernel_unpack : Determined contracts.grants.kernel_unpack.ended kernel_c.grants.kernel_unpack.Reads.Learnt
kernel_unpack κs a x y v w p q = (ap (λ (o : WordsResult). o.reply) (p ∙ sym q), ap (λ (o : WordsResult). (tt, (tt, (o.words, tt)))) (p ∙ sym q))

pub kernel_run : Determined contracts.runs.kernel_run.ended kernel_c.runs.kernel_run.Reads.Learnt
kernel_run κs a x y v w p q = (ap (λ (o : RunResult). o.reply) (p ∙ sym q), ap (λ (o : RunResult). (o.buffer, (tt, (o.answers, tt)))) (p ∙ sym q))

pub kernel_boot : Determined contracts.states.kernel_boot.ended kernel_c.states.kernel_boot.Reads.Learnt
kernel_boot κs a x y v w p q = (ap (λ (o : Outcome). o.reply) (p ∙ sym q), ap (λ (o : Outcome). (o.buffer, v.1)) (p ∙ sym q))

pub kernel_tick : Determined contracts.states.kernel_tick.ended kernel_c.states.kernel_tick.Reads.Learnt
kernel_tick κs a x y v w p q = (ap (λ (o : Outcome). o.reply) (p ∙ sym q), ap (λ (o : Outcome). (o.buffer, v.1)) (p ∙ sym q))

pub kernel_check : Determined contracts.states.kernel_check.ended kernel_c.states.kernel_check.Reads.Learnt
kernel_check κs a x y v w p q = (cc, refl)
