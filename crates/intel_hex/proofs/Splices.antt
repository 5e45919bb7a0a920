-- Parts of a list replaced one behind the other.
use mathlib.Core.List.{List, [], ◌∷◌, ◌++◌, append_assoc}
use mathlib.Core.Path.{◌≡◌, ◌∙◌}
use Prim.Native.Nat.{ℕ, ◌+◌, ◌<◌, ◌≤◌}
use native.Mathlib.Numerals.{add-one}
use native.Mathlib.Omega.{arith}
use lib.ListN.{length, take, drop, set, length-append, take-append-drop}
use lib.Seq.{drop_at, drop-drop, length-take-le, set_split, take_at}
use Rattle.state.specs.State.{splice}
use Rattle.state.proofs.Pieces.{length_splice}

pub splice_none : (l : List ℕ) (n : ℕ) → splice n [] l ≡ l
unfolding splice
splice_none l n = let e : n + 0 ≡ n = omega arith in rw e (take-append-drop n l)

pub splice_behind : (l v w : List ℕ) (n m : ℕ) → n + length v ≡ m → n ≤ length l → splice m w (splice n v l) ≡ splice n (v ++ w) l
unfolding splice
splice_behind l v w n m e h =
    let p : length (take n l ++ v) ≡ m = omega (arith, length-append (take n l) v, length-take-le n l h) in
    let b : n + length (v ++ w) ≡ m + length w = omega (arith, length-append v w) in
    rw (
      e,
      b,
      ← append_assoc (take n l) v (drop m l),
      take_at (take n l ++ v) (drop m l) m p,
      ← drop-drop (length w) m ((take n l ++ v) ++ drop m l),
      drop_at (take n l ++ v) (drop m l) m p,
      drop-drop (length w) m l,
      append_assoc (take n l) v (w ++ drop (m + length w) l),
      append_assoc v w (drop (m + length w) l),
    )

pub splice_front : (v l : List ℕ) (n : ℕ) → length v ≡ n → splice 0 v l ≡ v ++ drop n l
unfolding splice
splice_front v l n e = let z : 0 + length v ≡ n = omega arith in rw z

-- one element is a part too
pub set_splice : (l : List ℕ) (i x : ℕ) → i < length l → set l i x ≡ splice i (x ∷ []) l
unfolding splice
set_splice l i x h = set_split l i x h ∙ rw (add-one i)

pub set_behind : (l v : List ℕ) (n m x : ℕ) → n + length v ≡ m → m < length l → set (splice n v l) m x ≡ splice n (v ++ (x ∷ [])) l
set_behind l v n m x e h =
    set_splice (splice n v l) m x (omega (arith, length_splice l v n (omega arith))) ∙ splice_behind l v (x ∷ []) n m e (omega arith)
