-- What the code tells of a right from the words of its entry.
use Rattle.std.specs.Prelude.{Bool, ◌%◌, ℕ, eqb, leb, ltb}
use Rattle.words.specs.Fields.{address}
use Rattle.words.specs.Sizes.{kernel_end, kernel_start, slot_size}
use Rattle.words.specs.Tests.{◌&◌, choose}
use Rattle.audit_rights.specs.Names.{Directory, Endpoint, Function, KernelAddress, Kind, Memory, Process, Slot, Table}

-- the kind of a number from 1 to 6
unfoldable pub kind_from : ℕ → Slot → ℕ → ℕ → Kind
kind_from t o l h =
    choose (eqb t 1) (Table o)
    (choose (eqb t 2) (Directory o l h)
    (choose (eqb t 3) (Memory (address l) (address h))
    (choose (eqb t 4) (Process o)
    (choose (eqb t 5) (Endpoint o)
    (Function l h)))))

-- `inside` a kind of the same number whose object, low and high end are these words
unfoldable pub inside_words : Kind → ℕ → ℕ → ℕ → Bool
inside_words (Table o) p l h = eqb o.0 p
inside_words (Directory o a z) p l h = eqb o.0 p & leb l a & leb z h
inside_words (Memory a z) p l h = leb l a.0 & leb z.0 h
inside_words (Process o) p l h = eqb o.0 p
inside_words (Endpoint o) p l h = eqb o.0 p
inside_words (Function a z) p l h = leb l a & leb z h

-- `ends_ok` of a memory right, which asks nothing of the state
unfoldable pub memory_ends : KernelAddress → KernelAddress → Bool
memory_ends l h = leb kernel_start l.0 & ltb l.0 kernel_end & eqb (l.0 % slot_size) 0 & leb kernel_start h.0 & leb h.0 kernel_end & eqb (h.0 % slot_size) 0
