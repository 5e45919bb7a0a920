-- The kind of an entry: `place_from` of the state, without what the entry has beside its kind.
use Rattle.std.specs.Prelude.{List, ℕ, ◌+◌, Option, None, Some, eqb, get_or}
use Rattle.words.specs.Tests.{choose}
use Rattle.words.specs.Fields.{slot, address}
use Rattle.state.specs.Read.{word_at, low_at, high_at, object_at}
use Rattle.reading.specs.Names.{Slot, Kind, Table, Directory, Memory, Process, Endpoint, Function}

-- by the kind's number
unfoldable pub kind_from : ℕ → Slot → ℕ → ℕ → Option Kind
kind_from t o l h =
    choose (eqb t 1) (Some (Table o))
    (choose (eqb t 2) (Some (Directory o l h))
    (choose (eqb t 3) (Some (Memory (address l) (address h)))
    (choose (eqb t 4) (Some (Process o))
    (choose (eqb t 5) (Some (Endpoint o))
    (choose (eqb t 6) (Some (Function l h))
    None)))))

-- of the entry whose bytes start at a byte of a list
unfoldable pub kind_of : List ℕ → ℕ → Option Kind
kind_of l at = kind_from (word_at l at) (slot (get_or l (at + object_at) 0)) (word_at l (at + low_at)) (word_at l (at + high_at))
