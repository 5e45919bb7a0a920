-- An entry is blank where it has no kind, and else the right of its kind with the entry's other words.
use Rattle.std.proofs.Common.{◌≡◌, List, ℕ, ◌+◌, Bool, true, false, refl, eqb, Option, None, Some}
use Rattle.words.specs.Tests.{choose}
use Rattle.words.specs.Fields.{address}
use Rattle.state.specs.Read.{held, place_from, place_of, word_at, frost_from, origin_from, flags_at, frozen_at, stamp_at, parent_at}
use Rattle.reading.specs.Names.{Slot, Kind, Table, Directory, Memory, Process, Endpoint, Function, Frost, Origin, Place}
use Rattle.reading.specs.Kinds.{kind_from, kind_of}

abbrev pub right_of : Option Kind → ℕ → Frost → Origin → Place
right_of None f x r = None
right_of (Some k) f x r = held k f x r

by_kind : (t : ℕ) (o : Slot) (l h f : ℕ) (x : Frost) (r : Origin) → place_from t o l h f x r ≡ right_of (kind_from t o l h) f x r
unfolding place_from kind_from
by_kind t o l h f x r = go (eqb t 1) (eqb t 2) (eqb t 3) (eqb t 4) (eqb t 5) (eqb t 6)
  where
    go : (a b c d e g : Bool) → choose a (held (Table o) f x r) (choose b (held (Directory o l h) f x r) (choose c (held (Memory (address l) (address h)) f x r)
        (choose d (held (Process o) f x r) (choose e (held (Endpoint o) f x r) (choose g (held (Function l h) f x r) None)))))
        ≡ right_of (choose a (Some (Table o)) (choose b (Some (Directory o l h)) (choose c (Some (Memory (address l) (address h)))
        (choose d (Some (Process o)) (choose e (Some (Endpoint o)) (choose g (Some (Function l h)) None)))))) f x r
    go true b c d e g = refl
    go false true c d e g = refl
    go false false true d e g = refl
    go false false false true e g = refl
    go false false false false true g = refl
    go false false false false false true = refl
    go false false false false false false = refl

pub place_by_kind : (b : List ℕ) (at : ℕ) → place_of b at
    ≡ right_of (kind_of b at) (word_at b (at + flags_at)) (frost_from (word_at b (at + frozen_at)) (word_at b (at + stamp_at))) (origin_from (word_at b (at + parent_at)))
unfolding place_of kind_of
place_by_kind b at = by_kind _ _ _ _ _ _ _
