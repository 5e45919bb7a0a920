-- `audit_rights::kinds::stands` meets its contract: each arm asks what the two tests ask of its kind.
use Rattle.words.specs.Tests.{◌&◌}
use Rattle.state.specs.Read.{read}
use Rattle.rules.specs.WellFormed.{names, ends_ok}
use Rattle.audit_rights.specs.ByWords.{memory_ends}
use Rattle.audit_rights.proofs.Standing.{stands_table, stands_process, stands_endpoint, stands_directory}
use Rattle.audit_rights.proofs.kinds.stands.Goals as goal

pub returns-in-Table : goal.returns-in-Table
returns-in-Table c = rw (c.in-Table.is, stands_table (read c.args.s.now) _, c.tag_at.ensures)

pub returns-in-Directory : goal.returns-in-Directory
returns-in-Directory c =
    let st = read c.args.s.now in
    rw (
      c.in-Directory.is,
      stands_directory st _ _ _,
      c.both_below.ensures,
      c.positions_in.ensures,
    )

pub returns-in-Memory : goal.returns-in-Memory
unfolding names ends_ok memory_ends ◌&◌
returns-in-Memory c = rw (c.in-Memory.is, c.memory_ends.ensures)

pub returns-in-Process : goal.returns-in-Process
returns-in-Process c = rw (c.in-Process.is, stands_process (read c.args.s.now) _, c.tag_at-in-Process.ensures)

pub returns-in-Endpoint : goal.returns-in-Endpoint
returns-in-Endpoint c = rw (c.in-Endpoint.is, stands_endpoint (read c.args.s.now) _, c.tag_at-in-Endpoint.ensures)

pub returns-in-Function : goal.returns-in-Function
unfolding names ends_ok ◌&◌
returns-in-Function c = rw (c.in-Function.is, c.both_below-in-Function.ensures)
