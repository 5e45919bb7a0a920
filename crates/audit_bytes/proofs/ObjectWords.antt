-- An object stands in the part that its slots are exactly where its own words are clean and zeros follow.
use mathlib.Core.Bool.{Bool}
use mathlib.Core.List.{◌++◌, List, [], ◌∷◌}
use mathlib.Core.Path.{ap, ap₂, refl, sym, ◌∙◌, ◌≡◌}
use Prim.Native.Nat.{◌%◌, ◌*◌, ◌+◌, ◌-◌, ◌/◌, ◌<◌, ◌^◌, suc, zero, ℕ, ◌≤◌}
use native.Mathlib.Nat.{le_of_eq, zero-add}
use native.Mathlib.Omega.{arith}
use lib.Arith.{digits_div}
use lib.Dec.{eqb, leb, ltb}
use lib.ListN.{drop, get_or, length, length-append, replicate}
use borrow.Author.Tests.{eq-eqb, eqb-true, le-leb, leb-true}
use Rattle.audit_entries.proofs.Bounded.{all_agree}
use Rattle.state.proofs.Look.{listed_length}
use Rattle.state.proofs.Sizes.{place_length, position_length, positions_length, table_length}
use Rattle.state.specs.Bytes.{each, mark, memory_bytes, own_bytes, place_bytes, position_bytes, words_bytes}
use Rattle.state.specs.Read.{listed, marked, place_of, position_of, word_at}
use Rattle.state.specs.State.{Object, size_of}
use Rattle.words.proofs.Tests.{and_yes, iff}
use Rattle.words.specs.Sizes.{entry_size, header_size, position_size, slot_count, slot_size, slots_for}
use Rattle.words.specs.Tests.{◌&◌, all_below}
use Rattle.audit_bytes.specs.Clean.{zero_words}
use Rattle.audit_bytes.specs.Names.{None, Empty, Place, Position}
use Rattle.audit_bytes.specs.Stands.{directory_in, endpoint_in, place_stands, position_stands, process_in, starts, table_in}
use Rattle.audit_bytes.proofs.Runs.{starts_listed, zeros_stand}
use Rattle.audit_bytes.proofs.Starts.{starts_append}
use Rattle.audit_bytes.proofs.Tests.{and_assoc, and_end, eqb_self}
use Rattle.audit_bytes.proofs.Words.{Bytes, word_fits, word_slot, words_stand}

mark_clean : (w : ℕ) → eqb w (mark (marked w)) ≡ leb w 1
mark_clean zero = refl
mark_clean (suc w) = iff _ _ (λ h. le-leb (suc w) 1 (le_of_eq (eqb-true (suc w) 1 h))) (λ h. let l = leb-true (suc w) 1 h in eq-eqb (suc w) 1 (omega arith))

mark_small : (w : ℕ) → mark (marked w) < 2 ^ 32
mark_small zero = omega arith
mark_small (suc w) = omega arith

module _ (p : List ℕ) (u : Bytes p) where
  own_then_zeros : (o : Object) (n z : ℕ) → length (own_bytes o) ≡ n → slot_size * size_of o ≡ n + 4 * z → n + 4 * z ≤ length p
      → starts (memory_bytes o) p ≡ (starts (own_bytes o) p & zero_words p n z)
  own_then_zeros o n z l e h =
      let q : slot_size * size_of o - length (own_bytes o) ≡ 4 * z = omega arith in
      starts_append (own_bytes o) (replicate (slot_size * size_of o - length (own_bytes o)) 0) p
      ∙ ap (λ (x : Bool). starts (own_bytes o) p & x) (ap₂ (λ (i j : ℕ). starts (replicate i 0) (drop j p)) q l ∙ zeros_stand p u n z h)

  pub table_stands : (n : ℕ) → length p ≡ slot_size * slots_for (entry_size * n)
      → starts (memory_bytes (table_in p n)) p ≡ (all_below n (λ i. place_stands p (entry_size * i)) & zero_words p (entry_size * n) (8 * (n % 2)))
  table_stands n h =
      let f : ℕ → Place = λ i. place_of p (entry_size * i) in
      let m : length (listed n f) ≡ n = listed_length n f in
      own_then_zeros (table_in p n) (entry_size * n) (8 * (n % 2)) (table_length (listed n f) ∙ ap (λ (i : ℕ). entry_size * i) m) (omega arith) (omega arith)
      ∙ ap (λ (x : Bool). x & zero_words p (entry_size * n) (8 * (n % 2)))
      (starts_listed place_bytes 32 place_length None n f p 0 ∙ all_agree n _ _ (λ i k. ap (λ (j : ℕ). starts (place_bytes (f i)) (drop j p)) (zero-add (entry_size * i))))

  header_stands : 32 ≤ length p
      → starts (words_bytes (word_at p 0 ∷ mark (marked (word_at p 4)) ∷ word_at p 8 ∷ 0 ∷ 0 ∷ 0 ∷ 0 ∷ 0 ∷ [])) p ≡ (leb (word_at p 4) 1 & zero_words p 12 5)
  header_stands h =
      let ws : List ℕ = word_at p 0 ∷ mark (marked (word_at p 4)) ∷ word_at p 8 ∷ [] in
      starts_append (words_bytes ws) (replicate 20 0) p
      ∙ ap₂ (λ (x y : Bool). x & y)
      (words_stand p u 0 0 ws (omega arith) (word_fits p u 0, (mark_small (word_at p 4), (word_fits p u 8, tt)))
      ∙ and_yes _ _ (eqb_self (word_at p 0)) ∙ and_end _ _ (and_end _ _ refl ∙ eqb_self (word_at p 8)) ∙ mark_clean (word_at p 4))
      (zeros_stand p u 12 5 (omega arith))

  pub directory_stands : (n : ℕ) → length p ≡ slot_size * slots_for (header_size + position_size * n)
      → starts (memory_bytes (directory_in p n)) p
      ≡ (leb (word_at p 4) 1
      & (zero_words p 12 5
      & (all_below n (λ i. position_stands p (header_size + position_size * i))
      & zero_words p (header_size + position_size * n) ((length p - (header_size + position_size * n)) / 4))))
  directory_stands n h =
      let f : ℕ → Position = λ i. position_of p (header_size + 8 * i) in
      let m : length (listed n f) ≡ n = listed_length n f in
      let w : ℕ = (length p - (header_size + position_size * n)) / 4 in
      let x : ℕ = 16 * slots_for (header_size + position_size * n) - (8 + 2 * n) in
      let left : length p - (header_size + position_size * n) ≡ x * 4 + 0 = omega arith in
      let quarter : w ≡ x = ap (λ (i : ℕ). i / 4) left ∙ digits_div x (omega arith) in
      let hd : List ℕ = words_bytes (word_at p 0 ∷ mark (marked (word_at p 4)) ∷ word_at p 8 ∷ 0 ∷ 0 ∷ 0 ∷ 0 ∷ 0 ∷ []) in
      let own : length (hd ++ each position_bytes (listed n f)) ≡ header_size + position_size * n = length-append hd (each position_bytes (listed n f)) ∙ omega (arith, positions_length (listed n f)) in
      let size : slot_size * size_of (directory_in p n) ≡ slot_size * slots_for (header_size + position_size * n) = ap (λ (i : ℕ). slot_size * slots_for (header_size + position_size * i)) m in
      let room : slot_size * slots_for (header_size + position_size * n) ≡ header_size + position_size * n + 4 * x = omega arith in
      own_then_zeros (directory_in p n) (header_size + position_size * n) x own (size ∙ room) (le_of_eq (sym room ∙ sym h))
      ∙ ap (λ (i : ℕ). starts (own_bytes (directory_in p n)) p & zero_words p (header_size + position_size * n) i) (sym quarter)
      ∙ ap (λ (x : Bool). x & zero_words p (header_size + position_size * n) w)
      (starts_append hd (each position_bytes (listed n f)) p
      ∙ ap₂ (λ (x y : Bool). x & y) (header_stands (omega arith)) (starts_listed position_bytes 8 position_length Empty n f p 32))
      ∙ ap (λ (x : Bool). x & zero_words p (header_size + position_size * n) w) (and_assoc _ _ _)
      ∙ and_assoc _ _ _ ∙ ap (λ (x : Bool). leb (word_at p 4) 1 & x) (and_assoc _ _ _)

  pub process_stands : length p ≡ slot_size → starts (memory_bytes (process_in p)) p ≡ (ltb (word_at p 0) slot_count & (ltb (word_at p 4) slot_count & zero_words p 8 14))
  process_stands h =
      own_then_zeros (process_in p) 8 14 refl refl (omega arith)
      ∙ ap (λ (x : Bool). x & zero_words p 8 14)
      (words_stand p u 0 0 (get_or p 0 0 ∷ get_or p 4 0 ∷ []) (omega arith) (byte_small 0, (byte_small 4, tt))
      ∙ ap₂ (λ (x y : Bool). x & y) (word_slot p u 0) (and_end _ _ refl ∙ word_slot p u 4))
      ∙ and_assoc _ _ _
    where
      byte_small : (i : ℕ) → get_or p i 0 < 2 ^ 32
      byte_small i = omega (arith, u i)

  pub endpoint_stands : length p ≡ slot_size → starts (memory_bytes (endpoint_in p)) p ≡ (leb (word_at p 4) 1 & zero_words p 8 14)
  endpoint_stands h =
      own_then_zeros (endpoint_in p) 8 14 refl refl (omega arith)
      ∙ ap (λ (x : Bool). x & zero_words p 8 14)
      (words_stand p u 0 0 (word_at p 0 ∷ mark (marked (word_at p 4)) ∷ []) (omega arith) (word_fits p u 0, (mark_small (word_at p 4), tt))
      ∙ and_yes _ _ (eqb_self (word_at p 0)) ∙ and_end _ _ refl ∙ mark_clean (word_at p 4))
