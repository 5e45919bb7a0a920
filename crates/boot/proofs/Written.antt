-- The stages over a cleared buffer are the bytes of the boot state: by computation.
use mathlib.Core.Path.{refl, ◌≡◌}
use lib.ListN.{replicate}
use Rattle.rules.specs.Boot.{boot}
use Rattle.rules.specs.Opened.{opened}
use Rattle.words.specs.Sizes.{state_length}
use Rattle.state.specs.Bytes.{bytes}
use Rattle.boot.specs.Stages.{with_objects, with_pages, with_rights, with_roots}

pub boot_written : with_pages 8 (with_rights (with_objects (replicate state_length 0))) ≡ bytes boot
unfolding opened with_objects with_rights with_roots with_pages
boot_written = refl
