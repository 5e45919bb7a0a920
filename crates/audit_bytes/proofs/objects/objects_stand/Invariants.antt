-- `audit_bytes::objects::objects_stand` meets its contract: each turn passes one slot, the used ones first and then the free ones behind them.
use Rattle.std.proofs.Common.{true, ◌≡◌}
use Rattle.words.specs.Fields.{slot}
use Rattle.words.specs.Tests.{all_below}
use Rattle.audit_bytes.specs.Stands.{object_stands}
use Rattle.audit_bytes.proofs.objects.objects_stand.Given as goal

abbrev pub invariant-loop-k : goal.invariant-loop-k
invariant-loop-k l = all_below l.k (λ j. object_stands l.s (slot j)) ≡ true

abbrev pub invariant-loop-k-2 : goal.invariant-loop-k-2
invariant-loop-k-2 l = all_below l.k (λ j. object_stands l.s (slot j)) ≡ true
