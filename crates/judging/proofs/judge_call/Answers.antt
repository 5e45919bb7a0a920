-- `judging::judge_call` meets its contract: in each arm the call's number picks the rule; in the last there is none.
use mathlib.Core.Path.{refl}
use Rattle.judging.proofs.Numbered.{no_call_lem}
use Rattle.judging.proofs.judge_call.Goals as goal

pub returns-in-1 : goal.returns-in-1
returns-in-1 c = rw (← c.call_number-n.ensures, c.in-1.is) c.judge_create_table.ensures

pub returns-in-2 : goal.returns-in-2
returns-in-2 c = rw (← c.call_number-n.ensures, c.in-2.is) c.judge_delete_table.ensures

pub returns-in-3 : goal.returns-in-3
returns-in-3 c = rw (← c.call_number-n.ensures, c.in-3.is) c.judge_delegate.ensures

pub returns-in-4 : goal.returns-in-4
returns-in-4 c = rw (← c.call_number-n.ensures, c.in-4.is) c.judge_freeze.ensures

pub returns-in-5 : goal.returns-in-5
returns-in-5 c = rw (← c.call_number-n.ensures, c.in-5.is) c.judge_remove.ensures

pub returns-in-6 : goal.returns-in-6
returns-in-6 c = rw (← c.call_number-n.ensures, c.in-6.is) c.judge_create_directory.ensures

pub returns-in-7 : goal.returns-in-7
returns-in-7 c = rw (← c.call_number-n.ensures, c.in-7.is) c.judge_delete_directory.ensures

pub returns-in-8 : goal.returns-in-8
returns-in-8 c = rw (← c.call_number-n.ensures, c.in-8.is) c.judge_map_page.ensures

pub returns-in-9 : goal.returns-in-9
returns-in-9 c = rw (← c.call_number-n.ensures, c.in-9.is) c.judge_remove_page.ensures

pub returns-in-10 : goal.returns-in-10
returns-in-10 c = rw (← c.call_number-n.ensures, c.in-10.is) c.judge_construct.ensures

pub returns-in-11 : goal.returns-in-11
returns-in-11 c = rw (← c.call_number-n.ensures, c.in-11.is) c.judge_destruct.ensures

pub returns-in-12 : goal.returns-in-12
returns-in-12 c = rw (← c.call_number-n.ensures, c.in-12.is) c.judge_create_process.ensures

pub returns-in-13 : goal.returns-in-13
returns-in-13 c = rw (← c.call_number-n.ensures, c.in-13.is) c.judge_delete_process.ensures

pub returns-in-14 : goal.returns-in-14
returns-in-14 c = rw (← c.call_number-n.ensures, c.in-14.is) c.judge_change_table.ensures

pub returns-in-15 : goal.returns-in-15
returns-in-15 c = rw (← c.call_number-n.ensures, c.in-15.is) c.judge_change_directory.ensures

pub returns-in-16 : goal.returns-in-16
returns-in-16 c = rw (← c.call_number-n.ensures, c.in-16.is) c.judge_create_endpoint.ensures

pub returns-in-17 : goal.returns-in-17
returns-in-17 c = rw (← c.call_number-n.ensures, c.in-17.is) c.judge_delete_endpoint.ensures

pub returns-in-18 : goal.returns-in-18
returns-in-18 c = rw (← c.call_number-n.ensures, c.in-18.is) c.judge_send.ensures

pub returns-in-19 : goal.returns-in-19
returns-in-19 c = rw (← c.call_number-n.ensures, c.in-19.is) c.judge_receive.ensures

pub returns-in-20 : goal.returns-in-20
returns-in-20 c = rw (← c.call_number-n.ensures, c.in-20.is) c.judge_function.ensures

pub returns-in_default : goal.returns-in_default
returns-in_default c = rw (← c.call_number-n.ensures, no_call_lem c.call_number-n.result ((((((((((((((((((((tt, c.in_default.in_default-own.rest.0.0.0.0.0.0.0.0.0.0.0.0.0.0.0.0.0.0.0.1), c.in_default.in_default-own.rest.0.0.0.0.0.0.0.0.0.0.0.0.0.0.0.0.0.0.1), c.in_default.in_default-own.rest.0.0.0.0.0.0.0.0.0.0.0.0.0.0.0.0.0.1), c.in_default.in_default-own.rest.0.0.0.0.0.0.0.0.0.0.0.0.0.0.0.0.1), c.in_default.in_default-own.rest.0.0.0.0.0.0.0.0.0.0.0.0.0.0.0.1), c.in_default.in_default-own.rest.0.0.0.0.0.0.0.0.0.0.0.0.0.0.1), c.in_default.in_default-own.rest.0.0.0.0.0.0.0.0.0.0.0.0.0.1), c.in_default.in_default-own.rest.0.0.0.0.0.0.0.0.0.0.0.0.1), c.in_default.in_default-own.rest.0.0.0.0.0.0.0.0.0.0.0.1), c.in_default.in_default-own.rest.0.0.0.0.0.0.0.0.0.0.1), c.in_default.in_default-own.rest.0.0.0.0.0.0.0.0.0.1), c.in_default.in_default-own.rest.0.0.0.0.0.0.0.0.1), c.in_default.in_default-own.rest.0.0.0.0.0.0.0.1), c.in_default.in_default-own.rest.0.0.0.0.0.0.1), c.in_default.in_default-own.rest.0.0.0.0.0.1), c.in_default.in_default-own.rest.0.0.0.0.1), c.in_default.in_default-own.rest.0.0.0.1), c.in_default.in_default-own.rest.0.0.1), c.in_default.in_default-own.rest.0.1), c.in_default.in_default-own.rest.1)) refl
