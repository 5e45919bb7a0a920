-- `digits::digit` meets its contract: a character's class decides what it counts.
use native.Mathlib.Omega.{arith}
use Rattle.digits.proofs.Classes.{inside, below, above}
use Rattle.digits.specs.Digits.{digit_of}
use Rattle.digits.proofs.digit.Goals as goal

pub returns-in-48-to-57 : goal.returns-in-48-to-57
unfolding digit_of
returns-in-48-to-57 c = let b = c.args.b in rw (inside 48 57 b (omega arith) (omega arith))

pub returns-in-65-to-70 : goal.returns-in-65-to-70
unfolding digit_of
returns-in-65-to-70 c = let b = c.args.b in rw (above 48 57 b (omega arith), inside 65 70 b (omega arith) (omega arith))

pub returns-in-97-to-102 : goal.returns-in-97-to-102
unfolding digit_of
returns-in-97-to-102 c = let b = c.args.b in rw (above 48 57 b (omega arith), above 65 70 b (omega arith), inside 97 102 b (omega arith) (omega arith))

pub returns-in_default : goal.returns-in_default
unfolding digit_of
returns-in_default c = let b = c.args.b in rw (below 48 57 b (omega arith), below 65 70 b (omega arith), below 97 102 b (omega arith))

pub returns-in_default-2 : goal.returns-in_default-2
unfolding digit_of
returns-in_default-2 c = let b = c.args.b in rw (above 48 57 b (omega arith), below 65 70 b (omega arith), below 97 102 b (omega arith))

pub returns-in_default-3 : goal.returns-in_default-3
unfolding digit_of
returns-in_default-3 c = let b = c.args.b in rw (above 48 57 b (omega arith), above 65 70 b (omega arith), below 97 102 b (omega arith))

pub returns-in_default-4 : goal.returns-in_default-4
unfolding digit_of
returns-in_default-4 c = let b = c.args.b in rw (above 48 57 b (omega arith), above 65 70 b (omega arith), above 97 102 b (omega arith))
