-- The premise is needed, both its parts: where the reader can reach one memory right or one original right that touches the keeper's range, calls of its own change the range.
use mathlib.Core.Bool.{true}
use mathlib.Core.Logic.{inl}
use mathlib.Core.Path.{ap, refl, ◌≡◌}
use native.Mathlib.Omega.{arith}
use Rattle.rules.specs.Opened.{opened}
use Rattle.rules.specs.Run.{step}
use Rattle.rules.specs.WellFormed.{wf}
use Rattle.state.specs.State.{place_at, process}
use Rattle.words.specs.Fields.{address, slot}
use Rattle.words.specs.Rights.{root_right}
use Rattle.words.specs.Tests.{◌&◌}
use Rattle.apart.specs.Demand3.{By, Same, itself, run}
use Rattle.apart.specs.Example.{Others, leaky, loose, removal, stations, theft}
use Rattle.apart.specs.Names.{Capability, Endpoint, Some, Memory, Thawed}
use Rattle.apart.specs.Reach.{Premise, Touches, extent, extent_at, memory, original, own}
use Rattle.apart.proofs.Example.{words32}
use Rattle.apart.proofs.View.{in_slot}

-- ---- one memory right
pub wf_leaky : wf leaky ≡ true
unfolding opened stations leaky
wf_leaky = refl

abbrev leak : Capability
leak = record { kind = Memory (address 0x20002600) (address 0x20002800); flags = 63; frost = Thawed; origin = Some 4 }

reader_leaky : in_slot leaky 68 ≡ process (slot 64) (slot 16)
unfolding opened stations leaky
reader_leaky = refl

leak_held : place_at leaky (slot 64) 5 ≡ Some leak
unfolding opened stations leaky
leak_held = refl

leak_touches : Touches leaky 128 160 leak
leak_touches = memory (address 0x20002600) (address 0x20002800) 159 refl (omega arith, omega arith) (omega arith) (omega arith)

pub leaky_not_apart : Premise leaky Others 128 160 → ⊥
leaky_not_apart h = h 64 5 leak (own {p = 68} (inl refl) reader_leaky) leak_held leak_touches

pub theft_by : By itself step Others leaky theft
unfolding ◌&◌
theft_by = (inl refl, words32 _ refl, tt)

theft_before : extent_at leaky 159 ≡ 0
unfolding opened stations leaky
theft_before = refl

theft_after : extent_at (run itself step leaky theft) 159 ≡ 1
unfolding opened stations leaky
theft_after = refl

pub theft_harms : Same 128 160 leaky (run itself step leaky theft) → ⊥
theft_harms s = omega (arith, theft_before, theft_after, ap extent (s.slots 159 (omega arith, omega arith)))

-- ---- one original right
pub wf_loose : wf loose ≡ true
unfolding opened stations loose
wf_loose = refl

reader_loose : in_slot loose 68 ≡ process (slot 64) (slot 16)
unfolding opened stations loose
reader_loose = refl

root_held : place_at loose (slot 64) 5 ≡ Some (root_right (Endpoint (slot 140)))
unfolding opened stations loose
root_held = refl

removal_before : extent_at loose 140 ≡ 1
unfolding opened stations loose
removal_before = refl

root_touches : Touches loose 128 160 (root_right (Endpoint (slot 140)))
root_touches = original 140 tt refl (omega arith, omega arith) (omega arith, omega (arith, removal_before))

pub loose_not_apart : Premise loose Others 128 160 → ⊥
loose_not_apart h = h 64 5 (root_right (Endpoint (slot 140))) (own {p = 68} (inl refl) reader_loose) root_held root_touches

pub removal_by : By itself step Others loose removal
unfolding ◌&◌
removal_by = (inl refl, words32 _ refl, (inl (inl refl), words32 _ refl, tt))

removal_after : extent_at (run itself step loose removal) 140 ≡ 0
unfolding opened stations loose
removal_after = refl

pub removal_harms : Same 128 160 loose (run itself step loose removal) → ⊥
removal_harms s = omega (arith, removal_before, removal_after, ap extent (s.slots 140 (omega arith, omega arith)))
