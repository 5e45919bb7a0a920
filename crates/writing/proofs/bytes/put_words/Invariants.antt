-- `writing::bytes::put_words` meets its contract: the invariant is the words passed, and behind them what was there (`put_more`, `put_done`).
use Rattle.std.proofs.Common.{◌≡◌, ◌*◌, ◌++◌, length, take, drop}
use Rattle.state.specs.Bytes.{words_bytes}
use Rattle.writing.proofs.bytes.put_words.Given as goal

abbrev pub invariant-loop-i : goal.invariant-loop-i
invariant-loop-i l = (length l.part ≡ length l.initial.part) × (l.part ≡ words_bytes (take l.i l.ws) ++ drop (4 * l.i) l.initial.part)
