-- The caller's table, by the tag of what stands in the caller's slot; and a caller, a slot first.
use mathlib.Core.Bool.{Bool, false, true}
use mathlib.Core.List.{List}
use mathlib.Core.Path.{refl, ◌≡◌}
use Prim.Native.Nat.{ℕ}
use native.Mathlib.Omega.{arith}
use lib.Dec.{ltb}
use borrow.Author.Tests.{ltb-false}
use Rattle.rules.specs.Calls.{caller_table}
use Rattle.state.proofs.Look.{object_past}
use Rattle.state.specs.Bytes.{tag_of}
use Rattle.state.specs.Read.{read}
use Rattle.state.specs.State.{Object, body, directory, endpoint, free, obj_at, process, table, table_named}
use Rattle.words.specs.Fields.{slot}
use Rattle.words.specs.Sizes.{slot_count}
use Rattle.words.specs.Try.{◌>>=◌, ◌>>◌, need, Err, Ok}
use Rattle.judging_numbers.specs.Callers.{caller_slot}
use Rattle.judging_numbers.specs.Names.{BadCaller}

pub caller_known : (o : Object) → tag_of o ≡ 4 → caller_table o ≡ Ok (table_named o)
unfolding caller_table
caller_known free h = absurd (omega arith)
caller_known (body f) h = absurd (omega arith)
caller_known (table ps) h = absurd (omega arith)
caller_known (directory g es) h = absurd (omega arith)
caller_known (process t d) h = refl
caller_known (endpoint c b) h = absurd (omega arith)

pub caller_none : (o : Object) → (tag_of o ≡ 4 → ⊥) → caller_table o ≡ Err BadCaller
unfolding caller_table
caller_none free h = refl
caller_none (body f) h = refl
caller_none (table ps) h = refl
caller_none (directory g es) h = refl
caller_none (process t d) h = absurd (h refl)
caller_none (endpoint c b) h = refl

-- past the last slot nothing stands
pub caller_steps : (b : List ℕ) (n : ℕ) → caller_table (obj_at (read b) (slot n)) ≡ (caller_slot n >>= λ k. caller_table (obj_at (read b) k))
unfolding caller_table caller_slot ◌>>=◌ ◌>>◌ need
caller_steps b n = go (ltb n slot_count) refl
  where
    go : (z : Bool) → ltb n slot_count ≡ z → caller_table (obj_at (read b) (slot n)) ≡ (caller_slot n >>= λ k. caller_table (obj_at (read b) k))
    go true q = rw q
    go false q = rw (q, object_past b (slot n) (ltb-false _ _ q))
