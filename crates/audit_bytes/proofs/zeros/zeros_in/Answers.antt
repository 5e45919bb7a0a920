-- `audit_bytes::zeros::zeros_in` meets its contract: what is joined is 0 exactly where each word passed is.
use Rattle.std.proofs.Common.{ap, ap₂, nat_eq, sym, Bool, ℕ, ◌*◌, ◌+◌, ◌∙◌}
use native.Mathlib.Numerals.{add-one}
use Rattle.state.specs.Read.{word_at}
use Rattle.words.proofs.Tests.{all_zero}
use Rattle.words.specs.Tests.{◌&◌}
use Rattle.audit_bytes.specs.Clean.{zero_words}
use Rattle.audit_bytes.proofs.Tests.{all_back, or_zero}
use Rattle.audit_bytes.proofs.zeros.zeros_in.Goals as goal

pub loop-i-init : goal.loop-i-init
unfolding zero_words
loop-i-init c = sym (all_zero _)

pub loop-i-preserved : goal.loop-i-preserved
unfolding zero_words
loop-i-preserved c =
    let l = c.loop-i in
    or_zero l.seen c.word_in-seen.result
    ∙ ap₂ (λ (x y : Bool). x & y) l.invariant (ap (λ (w : ℕ). nat_eq w 0) c.word_in-seen.ensures)
    ∙ rw (add-one l.i) (sym (all_back l.i (λ j. nat_eq (word_at c.args.s.now (c.args.at + 4 * j)) 0)))
