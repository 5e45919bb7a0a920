-- `writing::bytes::put_run` meets its contract: the loop of `put_words` over one word n times (`put_more`, `put_done`).
use Rattle.std.proofs.Common.{◌≡◌, ◌*◌, ◌++◌, length, take, drop, replicate}
use Rattle.state.specs.Bytes.{words_bytes}
use Rattle.writing.proofs.bytes.put_run.Given as goal

abbrev pub invariant-loop-i : goal.invariant-loop-i
invariant-loop-i l = (length l.part ≡ length l.initial.part) × (l.part ≡ words_bytes (take l.i (replicate l.n l.v)) ++ drop (4 * l.i) l.initial.part)
