-- Worked numbers and lines, computed: the specification says of each what the guide says of it.
use mathlib.Core.List.{[], ◌∷◌, ◌++◌}
use mathlib.Core.Path.{◌≡◌, refl}
use Rattle.std.specs.Prelude.{Ok, Err}
use Rattle.words.specs.Tests.{◌&◌, ◌or◌}
use Rattle.digits.specs.Digits.{all_digits, digit_of, within}
use Rattle.lines.specs.Names.{NotANumber, TooLarge, Nothing, Boot, Show, Save, Load, Tick, Call}
use Rattle.lines.specs.Numbers.{digits_of, number_in, number_of, value_from}
use Rattle.lines.specs.Requests.{asked_by, boot, load, name_in, request_of, save, show, tick}
use Rattle.lines.specs.Spans.{past_run, word_after}
use Rattle.lines.specs.Words.{goes_on, grown, words_of}
use Rattle.lines.specs.declared.requests.Fault.TheVariants as fault

-- 007, 0x1f, 0x1F, 4294967295; 4294967296; nothing, 0x, 0X1, 12a, and the twelve characters 99999999999a
pub numbers : (number_of (48 ∷ 48 ∷ 55 ∷ []) ≡ Ok 7)
    × (number_of (48 ∷ 120 ∷ 49 ∷ 102 ∷ []) ≡ Ok 31)
    × (number_of (48 ∷ 120 ∷ 49 ∷ 70 ∷ []) ≡ Ok 31)
    × (number_of (52 ∷ 50 ∷ 57 ∷ 52 ∷ 57 ∷ 54 ∷ 55 ∷ 50 ∷ 57 ∷ 53 ∷ []) ≡ Ok 4294967295)
    × (number_of (52 ∷ 50 ∷ 57 ∷ 52 ∷ 57 ∷ 54 ∷ 55 ∷ 50 ∷ 57 ∷ 54 ∷ []) ≡ Err TooLarge)
    × (number_of [] ≡ Err NotANumber)
    × (number_of (48 ∷ 120 ∷ []) ≡ Err NotANumber)
    × (number_of (48 ∷ 88 ∷ 49 ∷ []) ≡ Err NotANumber)
    × (number_of (49 ∷ 50 ∷ 97 ∷ []) ≡ Err NotANumber)
    × (number_of (57 ∷ 57 ∷ 57 ∷ 57 ∷ 57 ∷ 57 ∷ 57 ∷ 57 ∷ 57 ∷ 57 ∷ 57 ∷ 97 ∷ []) ≡ Err NotANumber)
unfolding ◌&◌ all_digits digit_of digits_of number_in value_from within
numbers = (refl, refl, refl, refl, refl, refl, refl, refl, refl, refl)

-- the words of ` ab`, a tab and `c`, from the start, from the tab, and from beyond the end
pub spans : (word_after (32 ∷ 97 ∷ 98 ∷ 9 ∷ 99 ∷ []) 0 ≡ record { from = 1; to = 3 })
    × (word_after (32 ∷ 97 ∷ 98 ∷ 9 ∷ 99 ∷ []) 3 ≡ record { from = 4; to = 5 })
    × (word_after (32 ∷ 97 ∷ 98 ∷ 9 ∷ 99 ∷ []) 9 ≡ record { from = 5; to = 5 })
unfolding ◌or◌ past_run
spans = (refl, refl, refl)

-- a space, a tab and a carriage return; `#1`; then a command each; and calls of five words, three and six
pub requests : (request_of (32 ∷ 9 ∷ 13 ∷ []) ≡ Ok Nothing)
    × (request_of (35 ∷ 49 ∷ []) ≡ Ok Nothing)
    × (request_of boot ≡ Ok Boot)
    × (request_of (boot ++ 32 ∷ 49 ∷ []) ≡ Err fault.AfterBoot)
    × (request_of (9 ∷ show ++ 13 ∷ []) ≡ Ok Show)
    × (request_of (show ++ 32 ∷ 35 ∷ []) ≡ Err fault.AfterShow)
    × (request_of (tick ++ 9 ∷ 32 ∷ 56 ∷ 32 ∷ []) ≡ Ok (Tick 8))
    × (request_of tick ≡ Err fault.TickForm)
    × (request_of (tick ++ 32 ∷ 120 ∷ []) ≡ Err (fault.NotANumber 2))
    × (request_of (tick ++ boot) ≡ Err fault.Start)
    × (request_of (49 ∷ 32 ∷ 50 ∷ 32 ∷ 48 ∷ 120 ∷ 65 ∷ 32 ∷ 52 ∷ 32 ∷ 53 ∷ []) ≡ Ok (Call (record { caller = 1; w0 = 2; w1 = 10; w2 = 4; w3 = 5 })))
    × (request_of (49 ∷ 32 ∷ 50 ∷ 32 ∷ 120 ∷ 32 ∷ 52 ∷ 32 ∷ 121 ∷ []) ≡ Err (fault.NotANumber 3))
    × (request_of (49 ∷ 32 ∷ 120 ∷ 32 ∷ 51 ∷ []) ≡ Err (fault.Count 3))
    × (request_of (49 ∷ 32 ∷ 50 ∷ 32 ∷ 51 ∷ 32 ∷ 52 ∷ 32 ∷ 53 ∷ 32 ∷ 54 ∷ []) ≡ Err (fault.Count 6))
unfolding ◌&◌ ◌or◌ all_digits asked_by digit_of digits_of goes_on grown number_in value_from within words_of
requests = (refl, refl, refl, refl, refl, refl, refl, refl, refl, refl, refl, refl, refl, refl)

-- `save a` with a tab behind it, `save`, `save a b`; `load #` before a carriage return, since only a first word makes a remark; `load`
pub files : (request_of (save ++ 32 ∷ 97 ∷ 9 ∷ []) ≡ Ok Save)
    × (request_of save ≡ Err fault.SaveForm)
    × (request_of (save ++ 32 ∷ 97 ∷ 32 ∷ 98 ∷ []) ≡ Err fault.SaveForm)
    × (request_of (load ++ 32 ∷ 35 ∷ 13 ∷ []) ≡ Ok Load)
    × (request_of load ≡ Err fault.LoadForm)
unfolding ◌&◌ ◌or◌ asked_by goes_on grown words_of
files = (refl, refl, refl, refl, refl)

-- the name `ab` behind two spaces and before a carriage return, which inside a name is a part of it; a line of one word names nothing
pub names : (name_in (load ++ 32 ∷ 32 ∷ 97 ∷ 98 ∷ []) ≡ 97 ∷ 98 ∷ [])
    × (name_in (save ++ 32 ∷ 97 ∷ 98 ∷ 13 ∷ []) ≡ 97 ∷ 98 ∷ [])
    × (name_in (save ++ 32 ∷ 97 ∷ 13 ∷ 98 ∷ []) ≡ 97 ∷ 13 ∷ 98 ∷ [])
    × (name_in save ≡ [])
unfolding ◌or◌ goes_on grown words_of
names = (refl, refl, refl, refl)
