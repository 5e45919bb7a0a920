-- The worked texts and lines, computed.
use mathlib.Core.List.{List}
use mathlib.Core.Path.{◌≡◌, refl}
use Prim.Native.Nat.{ℕ}
use lib.ListN.{take}
use Rattle.words.specs.Tests.{◌&◌}
use Rattle.state.specs.State.{splice}
use Rattle.rules.specs.Buffer.{sound}
use Rattle.digits.specs.Digits.{all_digits, digit_for, digit_of, within}
use Rattle.intel_hex.specs.Cases.{answers, bad_states, cases, empty, expected, first_line, letters, made}
use Rattle.intel_hex.specs.Lines.{body_of, lines_of, longer, readable, spells, unreturned}
use Rattle.intel_hex.specs.Marks.{upper_line}
use Rattle.intel_hex.specs.Outcomes.{read_outcome, write_outcome}
use Rattle.intel_hex.specs.Pairs.{pairs, spelled}
use Rattle.intel_hex.specs.Reading.{data_step, end_step, filled, full, given, is_open, line_step, lines_taken, nothing_more, read_lines, read_text, record_step, unset, vacant}
use Rattle.intel_hex.specs.Records.{data_in, length_fits, record_of, sum_of, whole}
use Rattle.intel_hex.specs.Writing.{data_lines, line_of, written}

pub worked : answers cases ≡ expected cases
unfolding ◌&◌ splice all_digits digit_for digit_of within pairs spelled body_of lines_of longer readable spells unreturned data_step end_step filled full given is_open line_step lines_taken nothing_more read_lines record_step unset vacant data_in length_fits record_of sum_of whole data_lines line_of
worked = refl

pub spelled_out : made ≡ letters
unfolding digit_for spelled record_of sum_of line_of
spelled_out = refl

pub written_begins : (b : List ℕ) → take upper_line (written b) ≡ first_line
unfolding digit_for spelled record_of sum_of line_of written
written_begins b = refl

pub length_first : empty ≡ bad_states
unfolding ◌&◌ sound lines_of read_lines read_outcome read_text write_outcome
length_first = refl
