-- "objects lie in kernel memory and don't overlap": each object's slots follow its first one, and each later slot names the first.
use Rattle.std.specs.Prelude.{◌≡◌, Bool, true, false, List, [], ◌∷◌, ℕ, zero, suc, eqb, length}
use Rattle.words.specs.Sizes.{slot_count}
use Rattle.words.specs.Fields.{slot}
use Rattle.state.specs.Names.{Slot}
use Rattle.state.specs.State.{Object, free, body, table, directory, process, endpoint, State, size_of}

-- the object that stands at h goes on in this slot
abbrev pub goes_on : Slot → Object → Bool
goes_on h free = false
goes_on h (body f) = eqb f.0 h.0
goes_on h (table ps) = false
goes_on h (directory g es) = false
goes_on h (process t d) = false
goes_on h (endpoint c b) = false

-- the slots from k on, of which c still belong to the object that stands at h
unfoldable pub lay : (k c : ℕ) → Slot → List Object → Bool
lay k zero h [] = true
lay k (suc c) h [] = false
lay k zero h (o ∷ os) = elim (size_of o) [ zero ↦ false | suc m ↦ lay (suc k) m (slot k) os ]
lay k (suc c) h (o ∷ os) = elim (goes_on h o) [ true ↦ lay (suc k) c h os | false ↦ false ]

pub record Laid (st : State) : Type 0 where
  pub room : length st.slots ≡ slot_count
  pub laid : lay 0 0 (slot 0) st.slots ≡ true
