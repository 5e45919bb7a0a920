-- A name that opens every rule: a proof that computes says `unfolding opened`.
use Rattle.std.specs.Prelude.{Bool, true}
use Rattle.words.specs.Tests.{◌&◌, ◌or◌, all_below, any_below, sum_below}
use Rattle.words.specs.Try.{◌>>=◌, ◌>>◌, need}
use Rattle.words.specs.Rights.{has, subset, some_range, inside}
use Rattle.words.specs.Grants.{unpack, packable, pack}
use Rattle.state.specs.State.{splice}
use Rattle.state.specs.Layout.{lay}
use Rattle.state.specs.Bytes.{each, place_bytes, bytes}
use Rattle.state.specs.Read.{word_at, listed, frost_from, origin_from, place_from, place_of, position_from, position_of, positions_for, object_from, slot_from, read}
use Rattle.rules.specs.WellFormed.{every_place, every_object, apart, names, roots_of, one_root, rooted, whole, reaches, descends, runs, framed, hangs, geometric, position_ok, object_ok, ends_ok, right_ok, formed, wf}
use Rattle.rules.specs.Numbers.{right_at, as_table, as_directory, as_memory, as_process, as_endpoint, as_function, two_step, lookup, argument, top_arg}
use Rattle.rules.specs.Places.{to_fill, used_at, thawed_at, frozen_at, age, quiet, has_children, has_users, to_delete, to_remove}
use Rattle.rules.specs.Addresses.{address_arg}
use Rattle.rules.specs.Calls.{create_table, is_empty_table, delete_table, granted, delegate, freeze, remove, create_directory, has_child_directory, hangs_somewhere, as_directory_object, delete_directory, map_page, remove_page, construct, destruct, create_process, delete_process, change_table, change_directory, create_endpoint, delete_endpoint, send, receive, function, caller_table, plan}
use Rattle.rules.specs.Commit.{ticked}
use Rattle.rules.specs.Buffer.{same, sound, boot_outcome, tick_outcome, call_outcome}
use Rattle.rules.specs.Run.{step, happens, run_outcome}

unfoldable pub opened : Bool
unfolding ◌&◌ ◌or◌ all_below any_below sum_below ◌>>=◌ ◌>>◌ need has subset some_range inside unpack packable pack splice lay each place_bytes bytes word_at listed frost_from origin_from place_from place_of position_from position_of positions_for object_from slot_from read every_place every_object apart names roots_of one_root rooted whole reaches descends runs framed hangs geometric position_ok object_ok ends_ok right_ok formed wf right_at as_table as_directory as_memory as_process as_endpoint as_function two_step lookup argument top_arg to_fill used_at thawed_at frozen_at age quiet has_children has_users to_delete to_remove address_arg create_table is_empty_table delete_table granted delegate freeze remove create_directory has_child_directory hangs_somewhere as_directory_object delete_directory map_page remove_page construct destruct create_process delete_process change_table change_directory create_endpoint delete_endpoint send receive function caller_table plan ticked same sound boot_outcome tick_outcome call_outcome step happens run_outcome
opened = true
