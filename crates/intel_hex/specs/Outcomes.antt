-- Writing and reading on lent buffers: the answer and the whole lent buffer afterwards.
use Rattle.std.specs.Prelude.{List, ◌++◌, ℕ, eqb, leb, negsuc, pos, ℤ, drop, length}
use Rattle.words.specs.Refusals.{number}
use Rattle.words.specs.Sizes.{state_length}
use Rattle.words.specs.Tests.{choose}
use Rattle.rules.specs.Buffer.{Outcome, refused, sound}
use Rattle.intel_hex.specs.Marks.{text_length}
use Rattle.intel_hex.specs.Names.{Fault, Address, BadState, End, Line, Sum}
use Rattle.intel_hex.specs.Reading.{Result, faulty, read_text, gives}
use Rattle.intel_hex.specs.Writing.{written}

pub record TextOutcome : Type 0 where
  pub reply : ℤ
  pub text : List ℕ

-- "−34 output under 48,076 bytes"
abbrev pub no_room : ℤ
no_room = negsuc 33

-- "Writing: −19, then −34 output under 48,076 bytes; bytes past these stay."
unfoldable pub write_outcome : List ℕ → List ℕ → TextOutcome
write_outcome b out =
    choose (sound b)
    (choose (leb text_length (length out))
    (record { reply = pos 0; text = written b ++ drop text_length out })
    (record { reply = no_room; text = out }))
    (record { reply = number BadState; text = out })

-- "−30 character, line end, length or type other than 00, 01, 04"; "−31 record sum"; "−32 address overlap or outside, and a gap, judged at
-- the end record"; "−33 no end record or text after it"
abbrev pub fault_number : Fault → ℤ
fault_number Line = negsuc 29
fault_number Sum = negsuc 30
fault_number Address = negsuc 31
fault_number End = negsuc 32

-- "last for the state read"; "Lent buffers are written only on success"
abbrev pub stored : List ℕ → Result → Outcome
stored d (gives b) = choose (sound b) (record { reply = pos 0; buffer = b }) (refused d)
stored d (faulty f) = record { reply = fault_number f; buffer = d }

-- "−19 first for a destination of another length"
unfoldable pub read_outcome : List ℕ → List ℕ → Outcome
read_outcome t d = choose (eqb (length d) state_length) (stored d (read_text t)) (refused d)
