-- `hex_reading::cells::place` meets its contract: the bytes passed are placed, and the other cells are as they were.
use Rattle.std.proofs.Common.{List, ℕ, ◌≡◌, ◌∙◌, refl, ap, sym, suc, arith, drop, length, Some, set, take, length-take, length-drop}
use Rattle.std.proofs.lemmas.List.{map-set}
use Rattle.std.proofs.Math.ListN.{length-set}
use lib.Seq.{get_or-drop}
use Rattle.state.proofs.Pieces.{splice_all}
use Rattle.intel_hex.specs.Pairs.{pairs}
use Rattle.intel_hex.specs.Reading.{filled}
use Rattle.intel_hex.proofs.CellLaws.{place_none}
use Rattle.intel_hex.proofs.Filling.{length_filled}
use Rattle.hex_reading.specs.Numbers.{number, numbers}
use Rattle.hex_reading.proofs.Numbers.{length_numbers, place_next}
use Rattle.hex_reading.proofs.cells.place.Goals as goal

pub loop-k-init : goal.loop-k-init
loop-k-init c =
    let a = c.args in record {
      same_length = refl;
      placed_so_far = place_none (numbers a.cells.now) (drop 4 (pairs a.spelled.now.digits.now)) 0;
    }

pub loop-k-preserved : goal.loop-k-preserved
loop-k-preserved c =
    let cells = c.args.cells.now in
    let d = pairs c.args.spelled.now.digits.now in
    let l = c.loop-k in
    let b = c.byte.result in record {
      same_length = length-set l.cells l.k (Some b) ∙ l.invariant.same_length;
      placed_so_far = map-set number l.cells l.k (Some b)
          ∙ ap (λ (m : List ℕ). set m l.k (suc b)) l.invariant.placed_so_far
          ∙ place_next (numbers cells) (drop 4 d) l.k b (omega (arith, length_numbers cells, c.loop-k-test.true, l.invariant.same_length)) (omega (arith, c.requires, length-drop 4 d, c.loop-k-test.true, l.invariant.same_length)) (c.byte.ensures ∙ sym (get_or-drop 4 d l.k 0));
    }

pub returns : goal.returns
returns c =
    let cells = c.args.cells.now in
    let d = drop 4 (pairs c.args.spelled.now.digits.now) in
    let n = length cells in
    let e : c.loop-k.k ≡ n = omega (arith, c.loop-k-test.false, c.loop-k.invariant.same_length) in
    rw e at c.loop-k.invariant.placed_so_far
    ∙ splice_all (filled (take n d)) (numbers cells) (omega (arith, length_filled (take n d), length-take n d, length-drop 4 (pairs c.args.spelled.now.digits.now), length_numbers cells, c.requires))
