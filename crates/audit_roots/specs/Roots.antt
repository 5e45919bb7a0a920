-- "each object, and the kinds memory and function, has exactly one root": the number under which a root is counted, and the counts.
use Rattle.std.specs.Prelude.{Bool, false, true, List, Option, None, Some, ◌≡◌, ◌*◌, ◌+◌, ◌<◌, ℕ, ◌≤◌, eqb, get_or, length}
use Rattle.rules.specs.WellFormed.{every_place, names, one, right}
use Rattle.state.specs.Layout.{Laid}
use Rattle.state.specs.Read.{read}
use Rattle.state.specs.State.{State, entries_in, place_at}
use Rattle.words.specs.Fields.{slot}
use Rattle.words.specs.Sizes.{place_count, slot_count, state_length}
use Rattle.words.specs.Tests.{sum_below}
use Rattle.audit_roots.specs.Names.{None, Directory, Endpoint, Function, Some, Kind, Memory, Origin, Place, Process, Table}

-- the first slot of the object that a kind names; memory and function name none, and follow the 256 slots
abbrev pub key_of : Kind → ℕ
key_of (Table o) = o.0
key_of (Directory o l h) = o.0
key_of (Memory l h) = 256
key_of (Process o) = o.0
key_of (Endpoint o) = o.0
key_of (Function l h) = 257

abbrev pub keys : ℕ
keys = 258

-- under which number an entry is counted, if it is a root
abbrev pub key_under : Kind → Origin → Option ℕ
key_under k None = Some (key_of k)
key_under k (Some p) = None

abbrev pub root_key : Place → Option ℕ
root_key None = None
root_key (Some c) = key_under c.kind c.origin

-- whether that number is k
abbrev pub counted_under : Option ℕ → ℕ → Bool
counted_under None k = false
counted_under (Some n) k = eqb n k

-- the roots under k among the first n places, and in the tables of the first n slots
unfoldable pub roots_among : (ℕ → Place) → ℕ → ℕ → ℕ
roots_among at n k = sum_below n (λ e. one (counted_under (root_key (at e)) k))

unfoldable pub roots_below : State → ℕ → ℕ → ℕ
roots_below st n k = sum_below n (λ s. roots_among (place_at st (slot s)) (entries_in st (slot s)) k)

-- the counts w, one for each number, and what is added to them
pub record Counts (w : List ℕ) (f : ℕ → ℕ) : Type 0 where
  pub long : length w ≡ keys
  pub each_count : (k : ℕ) → k < keys → get_or w k 0 ≡ f k

-- counts up to m. No slot's table has more than 512 entries, so that no count leaves its word
abbrev pub most_roots : ℕ
most_roots = slot_count * place_count

pub record UpTo (m : ℕ) (w : List ℕ) : Type 0 where
  pub long : length w ≡ keys
  pub most : (k : ℕ) → k < keys → get_or w k 0 ≤ m

-- what the counts are afterwards, where they were w and f was counted
abbrev pub more : List ℕ → (ℕ → ℕ) → ℕ → ℕ
more w f k = get_or w k 0 + f k

-- each right names an object of its kind that stands there, as the rights' own part of the check has shown
unfoldable pub named : State → Bool
named st = every_place st (right (λ c. names st c.kind))

pub record Ready (b : List ℕ) : Type 0 where
  pub size : length b ≡ state_length
  pub laid : Laid (read b)
  pub rights : named (read b) ≡ true
