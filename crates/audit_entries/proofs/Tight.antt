-- "prove that two results satisfying it are equal": each public function's contract determines its answer, and all that was lent.
use mathlib.Core.Path.{refl, ap}
use Rattle.words.specs.Determined.{Determined}
use Rattle.audit_entries.proofs.Order.{listed_same}
use Rattle.audit_entries.proofs.Vacant.{used_same}
use Rattle.audit_entries.proofs as audit_entries
use Rattle.audit_entries.specs.contracts as contracts

pub list_heads : Determined contracts.heads.list_heads.ended audit_entries.heads.list_heads.Reads.Learnt
list_heads κs a x y v w p q = let e = listed_same _ _ _ _ x y p q in (e.0, ap (λ h. (tt, (tt, (h, tt)))) e.1)

pub word_in : Determined contracts.word_in.ended audit_entries.word_in.Reads.Learnt
word_in κs a x y v w p q = (cc, refl)

pub tag_in : Determined contracts.notes.tag_in.ended audit_entries.notes.tag_in.Reads.Learnt
tag_in κs a x y v w p q = (cc, refl)

pub argument_in : Determined contracts.notes.argument_in.ended audit_entries.notes.argument_in.Reads.Learnt
argument_in κs a x y v w p q = (cc, refl)

pub used : Determined contracts.used.used.ended audit_entries.used.used.Reads.Learnt
used κs a x y v w p q = (used_same _ x y p q, refl)
