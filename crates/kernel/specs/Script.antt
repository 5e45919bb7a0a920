-- A run as the kernel offers it: the events of a script, and what a run over them leaves.
use Rattle.std.specs.Prelude.{ℕ, ◌+◌, ◌*◌, ◌/◌, ◌%◌, List, ◌++◌, length, drop, ℤ, pos, negsuc, ◌==◌, nat_le, slice_index}
use Rattle.rules.specs.Cases.{four}
use Rattle.rules.specs.Run.{Event, Replies, call, run_outcome, tick}
use Rattle.state.specs.Read.{listed}
use Rattle.words.specs.Tests.{choose}

-- the answers of functions that are lent more than a state: −60, a script that is cut inside an event; −61, fewer answers or words lent
-- than there are to fill
abbrev pub cut_script : ℤ
cut_script = negsuc 59

abbrev pub too_few_lent : ℤ
too_few_lent = negsuc 60

-- the caller that stands for the clock: no slot has this number
abbrev pub the_clock : ℕ
the_clock = 0xFFFFFFFF

-- the words of an event in a script: the caller and the four words
abbrev pub event_words : ℕ
event_words = 5

unfoldable pub event_from : ℕ → ℕ → ℕ → ℕ → ℕ → Event
event_from p w0 w1 w2 w3 = choose (p == the_clock) tick (call p (four w0 w1 w2 w3))

unfoldable pub event_at : List ℕ → ℕ → Event
event_at l i =
    let at = event_words * i in
    event_from (slice_index l at) (slice_index l (at + 1)) (slice_index l (at + 2)) (slice_index l (at + 3)) (slice_index l (at + 4))

-- the first n events of a script
unfoldable pub events_in : ℕ → List ℕ → List Event
events_in n l = listed n (event_at l)

pub record RunResult : Type 0 where
  pub reply : ℤ
  pub buffer : List ℕ
  pub answers : List ℤ

abbrev pub ran : Replies → ℕ → List ℤ → RunResult
ran r n out = record { reply = pos 0; buffer = r.buffer; answers = r.replies ++ drop n out }

-- the fold of the rule's own step
unfoldable pub run_result : List ℕ → List ℕ → List ℤ → RunResult
run_result b script out =
    choose (length script % event_words == 0)
    (choose (nat_le (length script / event_words) (length out))
    (ran (run_outcome b (events_in (length script / event_words) script)) (length script / event_words) out)
    (record { reply = too_few_lent; buffer = b; answers = out }))
    (record { reply = cut_script; buffer = b; answers = out })
