-- `writing::bytes::put_run` meets its contract: the loop of `put_words` over one word n times (`put_more`, `put_done`).
use Rattle.std.proofs.Common.{◌≡◌, ℕ, ◌*◌, List, ◌++◌, get_or, take, drop, replicate, sym, ap, ◌∙◌, arith}
use lib.ListN.{length-replicate, get_or-replicate}
use Rattle.state.specs.State.{splice}
use Rattle.state.specs.Bytes.{le32, words_bytes}
use Rattle.writing.proofs.Stores.{put_more, put_done}
use Rattle.writing.proofs.bytes.put_run.Goals as goal

pub loop-i-preserved : goal.loop-i-preserved
loop-i-preserved c =
    let i = c.loop-i.i in
    let a = c.args in
    let ws = replicate a.n a.v in
    let same : get_or ws i 0 ≡ a.v = get_or-replicate a.n i a.v 0 c.loop-i-test.true in (
      omega (arith, c.loop-i.invariant.0),
      c.put_word.ensures ∙ ap (λ (l : List ℕ). splice (i * 4) (le32 a.v) l) c.loop-i.invariant.1
          ∙ ap (λ (x : ℕ). splice (i * 4) (le32 x) (words_bytes (take i ws) ++ drop (4 * i) a.part.now)) (sym same)
          ∙ put_more ws a.part.now i (omega (arith, length-replicate a.n a.v, c.loop-i-test.true)),
    )

pub returns : goal.returns
returns c =
    let a = c.args in
    let long = length-replicate a.n a.v in
    c.loop-i.invariant.1 ∙ put_done (replicate a.n a.v) a.part.now c.loop-i.i (omega (arith, long, c.loop-i-test.false)) (omega (arith, long, c.requires))
