-- The end of the rule `create_directory`, after its capabilities and its place p: the geometry g, then the address x.
use Rattle.std.specs.Prelude.{◌*◌, ◌+◌, ◌^◌}
use Rattle.rules.specs.Addresses.{address_arg}
use Rattle.rules.specs.WellFormed.{geometric}
use Rattle.state.specs.State.{State}
use Rattle.words.specs.Sizes.{header_size, position_size, slots_for}
use Rattle.words.specs.Try.{◌>>◌, ◌>>=◌, Try, need, Ok}
use Rattle.judging_directories.specs.Names.{Action, CreateDirectory, Geometry, KernelAddress, PgtHw, Spot, Stretch}

unfoldable pub shape_and_place : State → Stretch → Spot → Geometry → KernelAddress → Try Action
shape_and_place st m p g x = do
  need (geometric g) PgtHw
  a ← address_arg st m x (slots_for (header_size + position_size * 2 ^ g.number))
  Ok (CreateDirectory p a g)
