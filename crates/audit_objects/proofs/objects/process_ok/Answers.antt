-- `audit_objects::objects::process_ok` meets its contract: the readers give what `runs` asks of.
use Rattle.std.proofs.lemmas.Grind.{common_steps}
use native.Mathlib.Omega.{arith}
use Rattle.words.specs.Tests.{◌&◌}
use Rattle.state.specs.Read.{read}
use Rattle.rules.specs.WellFormed.{runs}
use Rattle.audit_objects.proofs.Checks.{table_number}
use Rattle.audit_objects.proofs.Asked.{ok_process}
use Rattle.audit_objects.proofs.objects.process_ok.Goals as goal

pub returns-then-tag_at-eq-TABLE_TAG : goal.returns-then-tag_at-eq-TABLE_TAG
unfolding runs ◌&◌
returns-then-tag_at-eq-TABLE_TAG c =
    rw (
      ok_process (read c.args.s.now) c.args.k c.requires,
      ← c.table_named.ensures,
      table_number _,
      ← c.tag_at.ensures,
      ← c.directory_named.ensures,
      ← c.shape_at.ensures,
    )
    (grind (arith, common_steps))

pub returns-else-tag_at-eq-TABLE_TAG : goal.returns-else-tag_at-eq-TABLE_TAG
unfolding runs ◌&◌
returns-else-tag_at-eq-TABLE_TAG c =
    rw (ok_process (read c.args.s.now) c.args.k c.requires, ← c.table_named.ensures, table_number _, ← c.tag_at.ensures) (grind (arith, common_steps))
