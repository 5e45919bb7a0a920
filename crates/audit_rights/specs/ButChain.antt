-- `right_ok` of the rules without "its parent chain reaches a root", which the 512 marks show afterwards.
use Rattle.std.specs.Prelude.{Bool, ℕ, eqb, leb}
use Rattle.rules.specs.WellFormed.{ends_ok, names, parent_fits, stamp_ok, whole}
use Rattle.state.specs.State.{State, place_numbered}
use Rattle.words.specs.Rights.{all_flags}
use Rattle.words.specs.Tests.{◌&◌}
use Rattle.audit_rights.specs.Names.{Capability, Kind, Origin, None, Thawed, Some}

unfoldable pub descends_but_chain : State → Capability → Origin → Bool
descends_but_chain st c None = eqb c.flags (all_flags c.kind) & whole st c.kind
descends_but_chain st c (Some p) = parent_fits c (place_numbered st p)

unfoldable pub right_but_chain : State → Capability → Bool
right_but_chain st c = names st c.kind & ends_ok st c.kind & leb c.flags (all_flags c.kind) & stamp_ok c.frost & descends_but_chain st c c.origin

-- a right as it is judged: no stamp that is read is out of range, so the frozen mark plays no part
abbrev pub bare : Kind → ℕ → Origin → Capability
bare k f o = record { kind = k; flags = f; frost = Thawed; origin = o }
