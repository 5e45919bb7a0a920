-- `lines::spans::past_run` meets its contract: the first byte that does not pass is where the run ends.
use mathlib.Core.Bool.{not}
use mathlib.Core.Path.{◌≡◌, ap, ◌∙◌}
use Prim.Native.Nat.{◌-◌, ◌+◌, ◌≤◌}
use native.Mathlib.Omega.{arith}
use lib.ListN.{drop, length, length-drop, take}
use lib.Seq.{take_all}
use Rattle.std.proofs.Common.{rules}
use Rattle.std.proofs.lemmas.Iterator.{YieldsList-from_slice}
use Rattle.std.proofs.lemmas.Iterator.Search.{position_from_yields_List}
use Rattle.std.specs.Option.{unwrap_or}
use Rattle.lines.proofs.Runs.{run_found, run_from}
use Rattle.lines.proofs.spans.past_run.Goals as goal

pub returns : goal.returns
returns g c p h =
    let a = c.args in
    let l = a.line.now in
    let s = c.min-start.result in
    let all : length (drop s l) ≤ length l - s = rw length-drop (omega arith) in
    let rest : take (length l - s) (drop s l) ≡ drop s l = take_all (length l - s) (drop s l) all in
    let found = position_from_yields_List (λ b. not (p b)) _ _ c.position.result c.position.ensures.ran (YieldsList-from_slice _ (c.iter.ensures.rest ∙ rest)) (λ x b q k. search (rules, h)) in
    let stop = run_found p (drop s l) c.position.result found in
    let size : c.unwrap_or.result ≡ unwrap_or c.position.result (length (drop s l)) = search (rules, rest) in
    rw (run_from p l a.at, ← c.min-start.ensures, size) (ap (λ n. s + n) stop)
