-- "prove that two results satisfying it are equal": each public function's contract determines its answer, and all that was lent.
use Rattle.std.proofs.Common.{refl}
use Rattle.words.specs.Determined.{Determined}
use Rattle.judging_places.proofs as judging_places
use Rattle.judging_places.specs.contracts as contracts

pub address_arg : Determined contracts.addresses.address_arg.ended judging_places.addresses.address_arg.Reads.Learnt
address_arg κs a x y v w p q = (cc, refl)

pub quiet : Determined contracts.ages.quiet.ended judging_places.ages.quiet.Reads.Learnt
quiet κs a x y v w p q = (cc, refl)

pub to_fill : Determined contracts.places.to_fill.ended judging_places.places.to_fill.Reads.Learnt
to_fill κs a x y v w p q = (cc, refl)

pub thawed_at : Determined contracts.places.thawed_at.ended judging_places.places.thawed_at.Reads.Learnt
thawed_at κs a x y v w p q = (cc, refl)

pub frozen_at : Determined contracts.places.frozen_at.ended judging_places.places.frozen_at.Reads.Learnt
frozen_at κs a x y v w p q = (cc, refl)
