-- Two answers of nothing but that all went well are one: what each theorem by `Settled` comes to.
use Rattle.std.proofs.Common.{◌≡◌, refl, Result, IsOk, Ok, Err}

pub fine_same : {E : Type 0} (x y : Result (Unit {0}) E) → IsOk x → IsOk y → x ≡ y
fine_same (Ok x) (Ok y) i j = refl
fine_same (Ok x) (Err e) i j = cc
fine_same (Err e) y i j = cc
