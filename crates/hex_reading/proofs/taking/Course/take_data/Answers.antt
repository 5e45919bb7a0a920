-- `hex_reading::taking::Course::take_data` meets its contract.
use Rattle.std.proofs.Common.{List, ℕ, ◌≡◌, ◌∙◌, ◌+◌, ◌-◌, ap, sym, arith, length, take, drop, length-take, length-drop}
use Rattle.words.specs.Sizes.{state_length}
use Rattle.intel_hex.specs.Pairs.{pairs}
use Rattle.intel_hex.specs.Reading.{filled, on}
use Rattle.intel_hex.specs.Records.{address_in, data_in, length_in}
use Rattle.intel_hex.proofs.Filling.{length_filled}
use Rattle.intel_hex.proofs.Steps.{data_beyond, data_length, data_other, data_placed, data_twice, whole_length}
use Rattle.hex_reading.specs.Numbers.{numbers}
use Rattle.hex_reading.proofs.Numbers.{length_numbers, numbers_lent, vacant_part}
use Rattle.hex_reading.proofs.taking.Course.take_data.Goals.{then-self-ne-STATE_UPPER-via-then-self-ne-STATE_UPPER, then-self-ne-STATE_UPPER-via-else-self-ne-STATE_UPPER+then-end-gt-STATE_LENGTH, then-self-ne-STATE_UPPER-via-else-self-ne-STATE_UPPER+else-end-gt-STATE_LENGTH+then-not-vacant}
use Rattle.hex_reading.proofs.taking.Course.take_data.Goals as goal

pub returns-then-self-ne-STATE_UPPER-clause-step : goal.returns-then-self-ne-STATE_UPPER-clause-step
returns-then-self-ne-STATE_UPPER-clause-step c =
    let cells = c.args.self.now.cells in
    let r = pairs c.args.spelled.now.digits.now in
    let l : length (numbers cells) ≡ state_length = omega (arith, length_numbers cells) in
    let a : c.from-at.result ≡ address_in r = c.from-at.ensures ∙ c.address.ensures in
    let n : c.from.result ≡ length_in r = c.from.ensures ∙ c.length.ensures in
    let s : c.from-at.result + c.from.result - c.from-at.result ≡ c.from.result = omega arith in
    elim c.then-self-ne-STATE_UPPER.branch [
      | then-self-ne-STATE_UPPER-via-then-self-ne-STATE_UPPER w ↦ sym (data_other r c.requires (numbers cells) l c.args.self.now.upper (omega arith) w.if-self-ne-STATE_UPPER.true)
      | then-self-ne-STATE_UPPER-via-else-self-ne-STATE_UPPER+then-end-gt-STATE_LENGTH w ↦ sym (data_beyond r c.requires (numbers cells) l c.args.self.now.upper w.if-self-ne-STATE_UPPER.false (omega arith))
      | then-self-ne-STATE_UPPER-via-else-self-ne-STATE_UPPER+else-end-gt-STATE_LENGTH+then-not-vacant w ↦
          sym (data_twice r c.requires (numbers cells) l c.args.self.now.upper w.if-self-ne-STATE_UPPER.false (omega arith)
          (rw (s, a, n) at (sym (vacant_part cells c.from-at.result (c.from-at.result + c.from.result - c.from-at.result)) ∙ sym w.vacant.ensures ∙ w.if-not-vacant.true)))
    ]

pub place-requires : goal.place-requires
place-requires c =
    let r = pairs c.args.spelled.now.digits.now in
    let at = c.from-at.result in
    omega (arith, whole_length r c.requires, c.from.ensures, c.length.ensures, length-take (at + c.from.result - at) (drop at c.args.self.now.cells))

pub returns-clause-step : goal.returns-clause-step
unfolding data_in
returns-clause-step c =
    let cells = c.args.self.now.cells in
    let r = pairs c.args.spelled.now.digits.now in
    let at = c.from-at.result in
    let u = c.args.self.now.upper in
    let l : length (numbers cells) ≡ state_length = omega (arith, length_numbers cells) in
    let a : at ≡ address_in r = c.from-at.ensures ∙ c.address.ensures in
    let n : c.from.result ≡ length_in r = c.from.ensures ∙ c.length.ensures in
    let s : at + c.from.result - at ≡ c.from.result = omega arith in
    let m : length (take (at + c.from.result - at) (drop at cells)) ≡ length_in r = omega (arith, length-take (at + c.from.result - at) (drop at cells), length-drop at cells, c.if-end-gt-STATE_LENGTH.false) in
    ap (λ (x : List ℕ). on (record { cells = x; upper = u }))
    (numbers_lent cells c.place.new.cells (filled (data_in r)) at (at + c.from.result - at) (c.place.ensures ∙ ap (λ (k : ℕ). filled (take k (drop 4 r))) m) (omega (arith, length_filled (data_in r), data_length r c.requires)))
    ∙ rw a
    (sym (data_placed r c.requires (numbers cells) l u c.if-self-ne-STATE_UPPER.false (omega arith)
    (rw (s, a, n) at (sym (vacant_part cells at (at + c.from.result - at)) ∙ sym c.vacant.ensures ∙ c.if-not-vacant.false))))
