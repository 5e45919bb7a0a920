-- What an answer of the code says, with the cells and the upper half of the address as they are then.
use Rattle.std.specs.Prelude.{List, ℕ, ℤ, pos, Result, Ok, Err}
use Rattle.intel_hex.specs.declared.faults.Fault.{Fault}
use Rattle.intel_hex.specs.Outcomes.{fault_number}
use Rattle.intel_hex.specs.Reading as reading
use Rattle.intel_hex.specs.Reading.{Step, bad, faulty, given, on, over, gives}
use Rattle.words.specs.Refusals as refusals
use Rattle.words.specs.declared.refusals.Refusal.TheVariants as refusal
use Rattle.hex_reading.specs.Names.{BadState, Faulty, On, Over, Taken, Unread}

abbrev pub told : Result Taken Fault → List ℕ → ℕ → Step
told (Ok On) c u = on (record { cells = c; upper = u })
told (Ok Over) c u = over (given c)
told (Err f) c u = bad f

-- a text: the bytes b, or a fault
abbrev pub told_text : Result (Unit {0}) Fault → List ℕ → reading.Result
told_text (Ok done) b = gives b
told_text (Err f) b = faulty f

-- the answer to C
abbrev pub number_of : Unread → ℤ
number_of (Faulty f) = fault_number f
number_of BadState = refusals.number refusal.BadState

abbrev pub reply_of : Result (Unit {0}) Unread → ℤ
reply_of (Ok done) = pos 0
reply_of (Err u) = number_of u
