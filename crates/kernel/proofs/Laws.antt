-- What the exported functions cite: the length of a sound buffer, and the tick on its bytes.
use Rattle.std.proofs.Common.{◌≡◌, ℕ, ◌+◌, ◌%◌, ◌^◌, true, List, length, sym, ap, ◌∙◌}
use Rattle.rules.proofs.Facts.{wf_laid}
use Rattle.rules.proofs.Lift.{sound_open}
use Rattle.rules.specs.Buffer.{sound}
use Rattle.rules.specs.Commit.{ticked}
use Rattle.state.proofs.Write.{bytes_clock}
use Rattle.state.specs.Bytes.{bytes, le32}
use Rattle.state.specs.Read.{read}
use Rattle.state.specs.State.{splice}
use Rattle.words.specs.Sizes.{clock_offset, state_length}

pub sound_long : (b : List ℕ) → sound b ≡ true → length b ≡ state_length
sound_long b h = (sound_open b h).size

pub tick_written : (b : List ℕ) → sound b ≡ true → splice clock_offset (le32 (((read b).clock + 1) % 2 ^ 32)) b ≡ bytes (ticked (read b))
unfolding ticked
tick_written b h =
    let s = sound_open b h in
    ap (splice clock_offset (le32 (((read b).clock + 1) % 2 ^ 32))) (sym s.bytes_of)
    ∙ sym (bytes_clock (read b) (wf_laid (read b) s.formed) (((read b).clock + 1) % 2 ^ 32))
