-- Lists of copies, zeros above all: "free and unused bytes are zero".
use mathlib.Core.Path.{◌≡◌, ◌∙◌, ap, refl}
use mathlib.Core.List.{List, ◌++◌}
use Prim.Native.Nat.{ℕ, zero, suc, ◌+◌, ◌*◌}
use native.Mathlib.Omega.{arith}
use lib.ListN.{get_or, replicate, replicate-append-replicate}
use Rattle.state.specs.Bytes.{each}

-- each is the one copied
pub copies : {A : Type 0} (n e : ℕ) (d : A) → get_or (replicate n d) e d ≡ d
copies zero e d = refl
copies (suc n) zero d = refl
copies (suc n) (suc e) d = copies n e d

-- zeros behind zeros
pub zeros_more : (v : List ℕ) (a b c : ℕ) → v ≡ replicate a 0 → a + b ≡ c → v ++ replicate b 0 ≡ replicate c 0
zeros_more v a b c e s = ap (λ (l : List ℕ). l ++ replicate b 0) e ∙ replicate-append-replicate a b 0 ∙ ap (λ (n : ℕ). replicate n 0) s

-- pieces of m zeros
pub each_zeros : {A : Type 0} (f : A → List ℕ) (x : A) (m : ℕ) → f x ≡ replicate m 0 → (n : ℕ) → each f (replicate n x) ≡ replicate (m * n) 0
unfolding each
each_zeros f x m e zero = let z : 0 ≡ m * 0 = omega arith in ap (λ (k : ℕ). replicate k 0) z
each_zeros f x m e (suc n) = ap (λ (v : List ℕ). f x ++ v) (each_zeros f x m e n) ∙ zeros_more (f x) m (m * n) (m * suc n) e (omega arith)
