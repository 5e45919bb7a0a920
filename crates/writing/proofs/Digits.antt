-- The four bytes of a word, where they are known otherwise: of a number that takes more bits, and of two bytes in a word.
use Rattle.std.proofs.Common.{◌≡◌, ℕ, ◌+◌, ◌*◌, ◌%◌, ◌^◌, ◌<◌, List, [], ◌∷◌, ◌++◌, ap, arith}
use Rattle.std.specs.Int.{to_le_bytes}
use mir.Syntax.{w32}
use Rattle.state.specs.Bytes.{le32, words_bytes}

digits : {a b c d a' b' c' d' : ℕ} → a ≡ a' → b ≡ b' → c ≡ c' → d ≡ d' → ◌≡◌ {A = List ℕ} (a ∷ b ∷ c ∷ d ∷ []) (a' ∷ b' ∷ c' ∷ d' ∷ [])
digits p q r s = λ i. p i ∷ q i ∷ r i ∷ s i ∷ []

-- a word's bytes are those of its low 32 bits
pub le32_low : (n : ℕ) → le32 (n % 2 ^ 32) ≡ le32 n
le32_low n = digits (omega arith) (omega arith) (omega arith) (omega arith)

-- as the library's method gives them
pub le32_bytes : (n : ℕ) → to_le_bytes w32 n ≡ le32 n
le32_bytes n = digits (omega arith) (omega arith) (omega arith) (omega arith)

-- two bytes in a word, and two zeros
pub le32_two : (a b : ℕ) → a < 256 → b < 256 → le32 (a + 256 * b) ≡ a ∷ b ∷ 0 ∷ 0 ∷ []
le32_two a b ha hb = digits (omega arith) (omega arith) (omega arith) (omega arith)

pub two_words : (a b f : ℕ) → a < 256 → b < 256 → words_bytes ((a + 256 * b) ∷ f ∷ []) ≡ a ∷ b ∷ 0 ∷ 0 ∷ le32 f
two_words a b f ha hb = ap (λ (v : List ℕ). v ++ le32 f) (le32_two a b ha hb)
