-- What a deletion asks after TYPE, for every kind that can be deleted: the end of the rule `to_delete`.
use Rattle.std.specs.Prelude.{not}
use Rattle.rules.specs.Places.{has_children, has_users, quiet}
use Rattle.state.specs.State.{State}
use Rattle.words.specs.Rights.{is_root}
use Rattle.words.specs.Try.{◌>>◌, Try, need, Ok}
use Rattle.judging_deletions.specs.Names.{CapRefcnt, Capability, Slot, Spot}

unfoldable pub after_type : State → Spot → Capability → Slot → Try Slot
after_type st p c o = do
  quiet st c
  need (is_root c.origin) CapRefcnt
  need (not (has_children st p)) CapRefcnt
  need (not (has_users st o)) CapRefcnt
  Ok o
