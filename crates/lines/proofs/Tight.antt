-- "prove that two results satisfying it are equal": each public function's contract determines its answer, and all that was lent.
use mathlib.Core.Path.{refl, ◌∙◌, ap, sym}
use Rattle.words.specs.Determined.{Determined, DeterminedAs}
use Rattle.lines.proofs as lines
use Rattle.lines.specs.contracts as contracts

pub count_of : Determined contracts.counts.count_of.ended lines.counts.count_of.Reads.Learnt
count_of κs a x y v w p q = (cc, refl)

pub gather : Determined contracts.gather.gather.ended lines.gather.gather.Reads.Learnt
gather κs a x y v w p q = (cc, ap (λ b. (b, v.1)) (p.1 ∙ sym q.1))

pub first : DeterminedAs contracts.gather.first.ended (λ κs x. x.now) lines.gather.first.Reads.Learnt
first κs a x y v w p q = (cc, refl)

pub name_in : DeterminedAs contracts.requests.name_in.ended (λ κs x. x.now) lines.requests.name_in.Reads.Learnt
name_in κs a x y v w p q = (cc, refl)

pub number_in : Determined contracts.numbers.number_in.ended lines.numbers.number_in.Reads.Learnt
number_in κs a x y v w p q = (cc, refl)

pub request_in : Determined contracts.requests.request_in.ended lines.requests.request_in.Reads.Learnt
request_in κs a x y v w p q = (cc, refl)

pub word_after : Determined contracts.spans.word_after.ended lines.spans.word_after.Reads.Learnt
word_after κs a x y v w p q = (cc, refl)
