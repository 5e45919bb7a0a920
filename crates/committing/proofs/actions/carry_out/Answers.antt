-- `committing::actions::carry_out` meets its contract: each arm is its writer's promise; an answer writes nothing.
use mathlib.Core.Path.{sym}
use Rattle.committing.proofs.Laws.{back}
use Rattle.committing.proofs.actions.carry_out.Goals as goal

pub commit_create_table-requires : goal.commit_create_table-requires
commit_create_table-requires c = record { well_formed = c.requires.well_formed; ready = rw c.in-CreateTable.is at c.requires.ready }

pub commit_create_directory-requires : goal.commit_create_directory-requires
commit_create_directory-requires c = record { well_formed = c.requires.well_formed; ready = rw c.in-CreateDirectory.is at c.requires.ready }

pub commit_create_process-requires : goal.commit_create_process-requires
commit_create_process-requires c = record { well_formed = c.requires.well_formed; ready = rw c.in-CreateProcess.is at c.requires.ready }

pub commit_create_endpoint-requires : goal.commit_create_endpoint-requires
commit_create_endpoint-requires c = record { well_formed = c.requires.well_formed; ready = rw c.in-CreateEndpoint.is at c.requires.ready }

pub commit_delete-requires : goal.commit_delete-requires
commit_delete-requires c = record { well_formed = c.requires.well_formed; ready = rw c.in-Delete.is at c.requires.ready }

pub commit_fill-requires : goal.commit_fill-requires
commit_fill-requires c = record { well_formed = c.requires.well_formed; ready = rw c.in-Fill.is at c.requires.ready }

pub commit_freeze-requires : goal.commit_freeze-requires
commit_freeze-requires c = record { well_formed = c.requires.well_formed; ready = rw c.in-Freeze.is at c.requires.ready }

pub commit_remove-requires : goal.commit_remove-requires
commit_remove-requires c = record { well_formed = c.requires.well_formed; ready = rw c.in-Remove.is at c.requires.ready }

pub commit_set_position-requires : goal.commit_set_position-requires
commit_set_position-requires c = record { well_formed = c.requires.well_formed; ready = rw c.in-SetPosition.is at c.requires.ready }

pub commit_change_table-requires : goal.commit_change_table-requires
commit_change_table-requires c = record { well_formed = c.requires.well_formed; ready = rw c.in-ChangeTable.is at c.requires.ready }

pub commit_change_directory-requires : goal.commit_change_directory-requires
commit_change_directory-requires c = record { well_formed = c.requires.well_formed; ready = rw c.in-ChangeDirectory.is at c.requires.ready }

pub commit_set_count-requires : goal.commit_set_count-requires
commit_set_count-requires c = record { well_formed = c.requires.well_formed; ready = rw c.in-SetCount.is at c.requires.ready }

pub returns-in-CreateTable : goal.returns-in-CreateTable
returns-in-CreateTable c = rw c.in-CreateTable.is c.commit_create_table.ensures

pub returns-in-CreateDirectory : goal.returns-in-CreateDirectory
returns-in-CreateDirectory c = rw c.in-CreateDirectory.is c.commit_create_directory.ensures

pub returns-in-CreateProcess : goal.returns-in-CreateProcess
returns-in-CreateProcess c = rw c.in-CreateProcess.is c.commit_create_process.ensures

pub returns-in-CreateEndpoint : goal.returns-in-CreateEndpoint
returns-in-CreateEndpoint c = rw c.in-CreateEndpoint.is c.commit_create_endpoint.ensures

pub returns-in-Delete : goal.returns-in-Delete
returns-in-Delete c = rw c.in-Delete.is c.commit_delete.ensures

pub returns-in-Fill : goal.returns-in-Fill
returns-in-Fill c = rw c.in-Fill.is c.commit_fill.ensures

pub returns-in-Freeze : goal.returns-in-Freeze
returns-in-Freeze c = rw c.in-Freeze.is c.commit_freeze.ensures

pub returns-in-Remove : goal.returns-in-Remove
returns-in-Remove c = rw c.in-Remove.is c.commit_remove.ensures

pub returns-in-SetPosition : goal.returns-in-SetPosition
returns-in-SetPosition c = rw c.in-SetPosition.is c.commit_set_position.ensures

pub returns-in-ChangeTable : goal.returns-in-ChangeTable
returns-in-ChangeTable c = rw c.in-ChangeTable.is c.commit_change_table.ensures

pub returns-in-ChangeDirectory : goal.returns-in-ChangeDirectory
returns-in-ChangeDirectory c = rw c.in-ChangeDirectory.is c.commit_change_directory.ensures

pub returns-in-SetCount : goal.returns-in-SetCount
returns-in-SetCount c = rw c.in-SetCount.is c.commit_set_count.ensures

pub returns-in-Answer : goal.returns-in-Answer
returns-in-Answer c = rw c.in-Answer.is (sym (back c.args.s.now c.requires.well_formed))
