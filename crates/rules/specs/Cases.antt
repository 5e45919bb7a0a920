-- "Worked from boot, caller 18": the cases marked P as one table. The proof is `worked` in proofs/Worked.antt.
use Rattle.std.specs.Prelude.{Bool, false, true, List, [], ◌∷◌, ℕ, eqb, negsuc, pos, ℤ}
use Rattle.state.specs.Bytes.{place_bytes}
use Rattle.state.specs.State.{State, place_at}
use Rattle.words.specs.Fields.{address, slot}
use Rattle.words.specs.Rights.{root_right}
use Rattle.words.specs.Tests.{◌&◌}
use Rattle.words.specs.Try.{Try}
use Rattle.rules.specs.Boot.{boot}
use Rattle.rules.specs.Buffer.{same}
use Rattle.rules.specs.Calls.{plan}
use Rattle.rules.specs.Commit.{after, answer}
use Rattle.rules.specs.Names.{Action, None, Endpoint, Some, Memory, Place, Thawed, Words}

-- ---- a case: the calls made before, all by 18; the caller and its words; the answer; what place 6 of the boot table holds then
pub record Case : Type 0 where
  pub before : List Words
  pub caller : ℕ
  pub words : Words
  pub answered : ℤ
  pub place6 : Place

abbrev pub four : ℕ → ℕ → ℕ → ℕ → Words
four nc p1 p2 p3 = record { nc = nc; p1 = p1; p2 = p2; p3 = p3 }

abbrev pub case : List Words → ℕ → Words → ℤ → Place → Case
case b c w a p = record { before = b; caller = c; words = w; answered = a; place6 = p }

-- the root of an endpoint at slot k
abbrev pub new_endpoint : ℕ → Place
new_endpoint k = Some (root_right (Endpoint (slot k)))

-- "entry 6 grants SIG on 0x20000400 to below 0x20000800"; its parent is place 4 of the table at slot 0
abbrev pub sig : Place
sig = Some (record { kind = Memory (address 0x20000400) (address 0x20000800); flags = 16; frost = Thawed; origin = Some 4 })

abbrev pub cases : List Case
cases =
    case [] 18 (four 0x00140003 0 0 0) (pos 0) None
    ∷ case [] 18 (four 0x00150000 0 0 0) (negsuc 16) None
    ∷ case [] 18 (four 0x00000000 0 0 0) (negsuc 16) None
    ∷ case [] 17 (four 0x00140003 0 0 0) (negsuc 17) None
    ∷ case [] 18 (four 0x00100000 4 6 0x20000500) (pos 0) (new_endpoint 20)
    ∷ case (four 0x00100000 4 6 0x20000500 ∷ []) 18 (four 0x00100000 4 6 0x20000500) (negsuc 5) (new_endpoint 20)
    ∷ case (four 0x00100000 4 6 0x20000500 ∷ []) 18 (four 0x00100000 4 7 0x20000500) (negsuc 6) (new_endpoint 20)
    ∷ case [] 18 (four 0x00100000 4 6 0x20000501) (negsuc 4) None
    ∷ case [] 18 (four 0x00100000 4 6 0x20003FC0) (pos 0) (new_endpoint 255)
    ∷ case [] 18 (four 0x00100000 4 6 0x20004000) (negsuc 4) None
    ∷ case [] 18 (four 0x08030410 6 4 0x20002000) (pos 0) sig
    ∷ case [] 18 (four 0x04030410 6 4 0x20002000) (negsuc 4) None
    ∷ case [] 18 (four 0x00100000 0x0084 6 0x20000500) (pos 0) (new_endpoint 20)
    ∷ case [] 18 (four 0x00100000 0x0100 6 0x20000500) (negsuc 0) None
    ∷ []

abbrev pub same_answer : ℤ → ℤ → Bool
same_answer (pos m) (pos n) = eqb m n
same_answer (pos m) (negsuc n) = false
same_answer (negsuc m) (pos n) = false
same_answer (negsuc m) (negsuc n) = eqb m n

abbrev pub after_all : State → List Words → State
after_all st [] = st
after_all st (w ∷ ws) = after_all (after st (plan st 18 w)) ws

abbrev pub judged : Case → State → Try Action → Bool
judged c st a = same_answer (answer a) c.answered & same (place_bytes (place_at (after st a) (slot 0) 6)) (place_bytes c.place6)

abbrev pub passes : Case → Bool
passes c = let st = after_all boot c.before in judged c st (plan st c.caller c.words)

abbrev pub every_case : List Case → Bool
every_case [] = true
every_case (c ∷ cs) = passes c & every_case cs
