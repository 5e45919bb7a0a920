-- "prove that two results satisfying it are equal": each public function's contract determines its answer, and all that was lent.
use mathlib.Core.Path.{refl}
use Rattle.words.specs.Determined.{Determined}
use Rattle.words.proofs as words
use Rattle.words.specs.contracts as contracts

pub is_thawed : Determined contracts.capabilities.is_thawed.ended words.capabilities.is_thawed.Reads.Learnt
is_thawed κs a x y v w p q = (cc, refl)

pub stamp_of : Determined contracts.capabilities.stamp_of.ended words.capabilities.stamp_of.Reads.Learnt
stamp_of κs a x y v w p q = (cc, refl)

pub place_thawed : Determined contracts.capabilities.place_thawed.ended words.capabilities.place_thawed.Reads.Learnt
place_thawed κs a x y v w p q = (cc, refl)

pub d1 : Determined contracts.fields.d1.ended words.fields.d1.Reads.Learnt
d1 κs a x y v w p q = (cc, refl)

pub d0 : Determined contracts.fields.d0.ended words.fields.d0.Reads.Learnt
d0 κs a x y v w p q = (cc, refl)

pub call_number : Determined contracts.fields.call_number.ended words.fields.call_number.Reads.Learnt
call_number κs a x y v w p q = (cc, refl)

pub number_order : Determined contracts.fields.number_order.ended words.fields.number_order.Reads.Learnt
number_order κs a x y v w p q = (cc, refl)

pub q1 : Determined contracts.fields.q1.ended words.fields.q1.Reads.Learnt
q1 κs a x y v w p q = (cc, refl)

pub q0 : Determined contracts.fields.q0.ended words.fields.q0.Reads.Learnt
q0 κs a x y v w p q = (cc, refl)

pub number_in_c : Determined contracts.fields.number_in_c.ended words.fields.number_in_c.Reads.Learnt
number_in_c κs a x y v w p q = (cc, refl)

pub number_in_d1 : Determined contracts.fields.number_in_d1.ended words.fields.number_in_d1.Reads.Learnt
number_in_d1 κs a x y v w p q = (cc, refl)

pub number_in_d0 : Determined contracts.fields.number_in_d0.ended words.fields.number_in_d0.Reads.Learnt
number_in_d0 κs a x y v w p q = (cc, refl)

pub number_in_word : Determined contracts.fields.number_in_word.ended words.fields.number_in_word.Reads.Learnt
number_in_word κs a x y v w p q = (cc, refl)

pub address_in_word : Determined contracts.fields.address_in_word.ended words.fields.address_in_word.Reads.Learnt
address_in_word κs a x y v w p q = (cc, refl)

pub count_in_word : Determined contracts.fields.count_in_word.ended words.fields.count_in_word.Reads.Learnt
count_in_word κs a x y v w p q = (cc, refl)

pub unpack_grant : Determined contracts.grants.unpack_grant.ended words.grants.unpack_grant.Reads.Learnt
unpack_grant κs a x y v w p q = (cc, refl)

pub pack_grant : Determined contracts.grants.pack_grant.ended words.grants.pack_grant.Reads.Learnt
pack_grant κs a x y v w p q = (cc, refl)

pub kind_number : Determined contracts.kinds.kind_number.ended words.kinds.kind_number.Reads.Learnt
kind_number κs a x y v w p q = (cc, refl)

pub object_of : Determined contracts.kinds.object_of.ended words.kinds.object_of.Reads.Learnt
object_of κs a x y v w p q = (cc, refl)

pub low_of : Determined contracts.kinds.low_of.ended words.kinds.low_of.Reads.Learnt
low_of κs a x y v w p q = (cc, refl)

pub high_of : Determined contracts.kinds.high_of.ended words.kinds.high_of.Reads.Learnt
high_of κs a x y v w p q = (cc, refl)

pub all_flags : Determined contracts.kinds.all_flags.ended words.kinds.all_flags.Reads.Learnt
all_flags κs a x y v w p q = (cc, refl)

pub root_right : Determined contracts.kinds.root_right.ended words.kinds.root_right.Reads.Learnt
root_right κs a x y v w p q = (cc, refl)

pub refusal_number : Determined contracts.refusals.refusal_number.ended words.refusals.refusal_number.Reads.Learnt
refusal_number κs a x y v w p q = (cc, refl)

pub slots_for : Determined contracts.sizes.slots_for.ended words.sizes.slots_for.Reads.Learnt
slots_for κs a x y v w p q = (cc, refl)
