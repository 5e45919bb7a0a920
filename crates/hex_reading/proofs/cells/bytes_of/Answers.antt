-- `hex_reading::cells::bytes_of` meets its contract: the bytes passed are those given, and behind them stands what was there.
use Rattle.std.proofs.Common.{List, ℕ, ◌≡◌, ◌-◌, ◌∙◌, ap, sym, arith, None, get_or, set}
use Rattle.std.proofs.Math.ListN.{get_or-map, length-set}
use Rattle.intel_hex.specs.Reading.{given}
use Rattle.intel_hex.proofs.CellLaws.{front_done, front_more, given_at, length_given}
use Rattle.hex_reading.specs.Numbers.{number, numbers}
use Rattle.hex_reading.proofs.Numbers.{given_number, length_numbers}
use Rattle.hex_reading.proofs.cells.bytes_of.Goals as goal

pub loop-k-preserved : goal.loop-k-preserved
loop-k-preserved c =
    let cells = c.args.cells.now in
    let k = c.loop-k.k in
    let b = c.unwrap_or.result in
    let e : b ≡ get_or (given (numbers cells)) k 0 =
    c.unwrap_or.ensures ∙ given_number (get_or cells k None) ∙ ap (λ (n : ℕ). n - 1) (sym (get_or-map number cells k None)) ∙ sym (given_at (numbers cells) k) in record {
      same_length = length-set c.loop-k.state k b ∙ c.loop-k.invariant.same_length;
      given_so_far = ap (λ (l : List ℕ). set l k b) c.loop-k.invariant.given_so_far
          ∙ front_more (given (numbers cells)) c.args.state.now k b (omega (arith, length_given (numbers cells), length_numbers cells, c.loop-k-test.true)) (omega (arith, c.requires, c.loop-k-test.true)) e;
    }

pub returns : goal.returns
returns c =
    let cells = c.args.cells.now in
    c.loop-k.invariant.given_so_far
    ∙ front_done (given (numbers cells)) c.args.state.now c.loop-k.k (omega (arith, length_given (numbers cells), length_numbers cells, c.loop-k-test.false)) (omega (arith, c.requires, c.loop-k-test.false))
