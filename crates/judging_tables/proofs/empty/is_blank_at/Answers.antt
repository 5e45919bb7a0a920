-- `judging_tables::empty::is_blank_at` meets its contract: the entry is the one that starts at its byte of the part.
use Rattle.std.proofs.Common.{◌≡◌, Bool, not, true, false}
use Rattle.std.specs.Prelude.{is_some, Option, None, Some}
use Rattle.words.specs.Rights.{is_blank}
use Rattle.words.specs.declared.capabilities.Capability.{Capability}
use Rattle.judging_tables.proofs.empty.is_blank_at.Goals as goal

pub returns : goal.returns
returns c = blank _ _ _ c.is_none.ensures c.place_of.ensures
  where
    blank : (p q : Option Capability) (r : Bool) → is_some p ≡ not r → p ≡ q → r ≡ is_blank q
    blank None q true h e = rw (← e)
    blank None q false h e = cc
    blank (Some c) q true h e = cc
    blank (Some c) q false h e = rw (← e)
