-- `audit_objects::objects::table_ok` meets its contract: the entries are those that the note tells.
use Rattle.std.proofs.lemmas.Grind.{common_steps}
use native.Mathlib.Omega.{arith}
use Rattle.words.specs.Tests.{◌&◌}
use Rattle.state.specs.Read.{read}
use Rattle.audit_objects.proofs.Asked.{ok_table}
use Rattle.audit_objects.proofs.objects.table_ok.Goals as goal

pub returns-then-n-ge1 : goal.returns-then-n-ge1
unfolding ◌&◌
returns-then-n-ge1 c = rw (ok_table (read c.args.s.now) c.args.k c.requires, ← c.entries_in-n.ensures) (grind (arith, common_steps))

pub returns-else-n-ge1 : goal.returns-else-n-ge1
unfolding ◌&◌
returns-else-n-ge1 c = rw (ok_table (read c.args.s.now) c.args.k c.requires, ← c.entries_in-n.ensures) (grind (arith, common_steps))
