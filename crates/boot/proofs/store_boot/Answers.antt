-- `boot::store_boot` meets its contract: the stages over a cleared buffer are the boot state's bytes.
use Rattle.boot.proofs.Written.{boot_written}
use Rattle.boot.proofs.store_boot.Goals as goal

pub returns : goal.returns
returns c = rw (c.store_pages.ensures, c.store_rights.ensures, c.store_objects.ensures, c.fill.ensures.after (λ y e. e), c.requires) boot_written
