-- −18, the part that needs no state: a caller is any word, and a slot where the word is below the number of slots.
use Rattle.std.specs.Prelude.{ℕ, ltb}
use Rattle.words.specs.Fields.{slot}
use Rattle.words.specs.Sizes.{slot_count}
use Rattle.words.specs.Try.{◌>>◌, Try, need, Ok}
use Rattle.judging_numbers.specs.Names.{BadCaller, Slot}

unfoldable pub caller_slot : ℕ → Try Slot
caller_slot caller = do
  need (ltb caller slot_count) BadCaller
  Ok (slot caller)
