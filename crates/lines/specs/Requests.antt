-- The console's lines and their faults, a rule each; the first that fits decides.
use Rattle.std.specs.Prelude.{List, [], ◌∷◌, ℕ, ◌+◌, ◌-◌, Result, Ok, Err, eqb, get_or, length, take}
use Rattle.std.specs.Str.{bytes_eq}
use Rattle.words.specs.Tests.{choose}
use Rattle.digits.specs.Digits.{within}
use Rattle.lines.specs.Names.{NumberFault, NotANumber, TooLarge, Fault, Request, Nothing, Boot, Show, Save, Load, Tick, Call}
use Rattle.lines.specs.Numbers.{number_of}
use Rattle.lines.specs.Words.{words_of}
use Rattle.lines.specs.declared.requests.Fault.TheVariants as fault

-- "A carriage return before the line's end is not read."
abbrev pub unreturned : List ℕ → List ℕ
unreturned line = choose (eqb (get_or line (length line - 1) 0) 13) (take (length line - 1) line) line

-- ---- words where a number has to stand
-- faults number the words from 1
abbrev pub operand : ℕ → Result ℕ NumberFault → Result ℕ Fault
operand k (Ok n) = Ok n
operand k (Err NotANumber) = Err (fault.NotANumber k)
operand k (Err TooLarge) = Err (fault.TooLarge k)

abbrev pub operand_at : List (List ℕ) → ℕ → Result ℕ Fault
operand_at ws k = operand (k + 1) (number_of (get_or ws k []))

-- "judged word by word from the left"
abbrev pub given : Result ℕ Fault → (ℕ → Result Request Fault) → Result Request Fault
given (Ok n) f = f n
given (Err x) f = Err x

-- ---- what the words ws of a line ask for, by the form of the line
-- a request that has to have so many words, in a line of n
abbrev pub formed : ℕ → ℕ → Request → Fault → Result Request Fault
formed words n asked other = choose (eqb n words) (Ok asked) (Err other)

-- a command that takes nothing after it, in a line of n words
abbrev pub alone : ℕ → Request → Fault → Result Request Fault
alone = formed 1

-- a command that "takes one file name without blanks", in a line of n words
abbrev pub named : ℕ → Request → Fault → Result Request Fault
named = formed 2

abbrev pub tick_of : List (List ℕ) → Result Request Fault
tick_of ws = choose (eqb (length ws) 2) (given (operand_at ws 1) (λ k. Ok (Tick k))) (Err fault.TickForm)

-- "the call with the words N:C, P1, P2, P3, by the process at slot CALLER"
abbrev pub five_of : List (List ℕ) → Result Request Fault
five_of ws =
    given (operand_at ws 0) (λ caller.
    given (operand_at ws 1) (λ w0.
    given (operand_at ws 2) (λ w1.
    given (operand_at ws 3) (λ w2.
    given (operand_at ws 4) (λ w3.
    Ok (Call (record { caller = caller; w0 = w0; w1 = w1; w2 = w2; w3 = w3 })))))))

abbrev pub call_of : List (List ℕ) → Result Request Fault
call_of ws = choose (eqb (length ws) 5) (five_of ws) (Err (fault.Count (length ws)))

-- ---- the table
abbrev pub boot : List ℕ
boot = 98 ∷ 111 ∷ 111 ∷ 116 ∷ []

abbrev pub show : List ℕ
show = 115 ∷ 104 ∷ 111 ∷ 119 ∷ []

abbrev pub save : List ℕ
save = 115 ∷ 97 ∷ 118 ∷ 101 ∷ []

abbrev pub load : List ℕ
load = 108 ∷ 111 ∷ 97 ∷ 100 ∷ []

abbrev pub tick : List ℕ
tick = 116 ∷ 105 ∷ 99 ∷ 107 ∷ []

-- by the first word w: a command, or a call, which begins with a digit
unfoldable pub asked_by : List ℕ → List (List ℕ) → Result Request Fault
asked_by w ws =
    choose (bytes_eq w boot) (alone (length ws) Boot fault.AfterBoot)
    (choose (bytes_eq w show) (alone (length ws) Show fault.AfterShow)
    (choose (bytes_eq w save) (named (length ws) Save fault.SaveForm)
    (choose (bytes_eq w load) (named (length ws) Load fault.LoadForm)
    (choose (bytes_eq w tick) (tick_of ws)
    (choose (within 48 57 (get_or w 0 0)) (call_of ws) (Err fault.Start))))))

-- "blank, or # first": nothing
abbrev pub request_from : List (List ℕ) → Result Request Fault
request_from ws =
    choose (eqb (length ws) 0) (Ok Nothing)
    (choose (eqb (get_or (get_or ws 0 []) 0 0) 35) (Ok Nothing) (asked_by (get_or ws 0 []) ws))

abbrev pub request_of : List ℕ → Result Request Fault
request_of line = request_from (words_of (unreturned line))

-- the file that `save` and `load` name: word 1 from 0, empty where there is none
abbrev pub name_in : List ℕ → List ℕ
name_in line = get_or (words_of (unreturned line)) 1 []
