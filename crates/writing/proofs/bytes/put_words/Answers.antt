-- `writing::bytes::put_words` meets its contract: the invariant is the words passed, and behind them what was there (`put_more`, `put_done`).
use Rattle.std.proofs.Common.{ℕ, ◌*◌, List, get_or, ap, ◌∙◌, arith}
use Rattle.state.specs.State.{splice}
use Rattle.state.specs.Bytes.{le32}
use Rattle.writing.proofs.Stores.{put_more, put_done}
use Rattle.writing.proofs.bytes.put_words.Goals as goal

pub loop-i-preserved : goal.loop-i-preserved
loop-i-preserved c =
    let i = c.loop-i.i in
    let ws = c.args.ws.now in (
      omega (arith, c.loop-i.invariant.0),
      c.put_word.ensures ∙ ap (λ (l : List ℕ). splice (i * 4) (le32 (get_or ws i 0)) l) c.loop-i.invariant.1 ∙ put_more ws c.args.part.now i c.loop-i-test.true,
    )

pub returns : goal.returns
returns c = c.loop-i.invariant.1 ∙ put_done c.args.ws.now c.args.part.now c.loop-i.i c.loop-i-test.false c.requires
