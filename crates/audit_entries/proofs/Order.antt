-- The list in its order, as its loop makes it: a slot that is none, a slot put behind those before it, and the free slots at the end.
use mathlib.Core.List.{List, [], ◌∷◌, ◌++◌}
use mathlib.Core.Path.{ap, refl, sym, ◌∙◌, ◌≡◌}
use Prim.Native.Nat.{◌*◌, ◌+◌, ◌-◌, ◌<◌, suc, zero, ℕ, ◌≤◌}
use native.Mathlib.Nat.{add-zero}
use native.Mathlib.Omega.{arith}
use lib.ListN.{drop, get_or, length, length-append, set}
use lib.Seq.{drop-cons}
use borrow.Author.Tests.{le-ltb, lt-ltb}
use Rattle.words.specs.Sizes.{memory_length, slot_count}
use Rattle.audit_entries.specs.Heads.{Listed, NoHead, heads_below}
use Rattle.audit_entries.specs.Vacant.{Vacant}
use Rattle.audit_entries.proofs.Vacant.{vacant_tag}

-- the first m numbers of h, for the first k slots, with what stood there before behind them
pub record Order (b before h : List ℕ) (m k : ℕ) : Type 0 where
  pub list : h ≡ heads_below b k ++ drop m before
  pub count : m ≡ length (heads_below b k)

pub order_none : (b h : List ℕ) → Order b h h 0 0
unfolding heads_below
order_none b h = record { list = refl; count = refl }

below_past : (b : List ℕ) (k : ℕ) → NoHead b k → heads_below b (suc k) ≡ heads_below b k
unfolding heads_below
below_past b k t = rw (le-ltb 1 (get_or b (memory_length + 4 * k) 0) t)

below_more : (b : List ℕ) (k : ℕ) → 1 < get_or b (memory_length + 4 * k) 0 → heads_below b (suc k) ≡ heads_below b k ++ k ∷ []
unfolding heads_below
below_more b k t = rw (lt-ltb 1 (get_or b (memory_length + 4 * k) 0) t)

module _ (b before h : List ℕ) (m k : ℕ) (w : Order b before h m k) where
  pub order_past : NoHead b k → Order b before h m (suc k)
  order_past t = record { list = rw (below_past b k t) w.list; count = rw (below_past b k t) w.count }

  put_at : (hs rest : List ℕ) (x : ℕ) → set (hs ++ x ∷ rest) (length hs) k ≡ (hs ++ k ∷ []) ++ rest
  put_at [] rest x = refl
  put_at (y ∷ hs) rest x = ap (λ (l : List ℕ). y ∷ l) (put_at hs rest x)

  pub order_more : 1 < get_or b (memory_length + 4 * k) 0 → m < length before → Order b before (set h m k) (suc m) (suc k)
  order_more t l = record {
    list =
        ap (λ (z : List ℕ). set z m k) (w.list ∙ ap (λ (z : List ℕ). heads_below b k ++ z) (drop-cons before m 0 l))
        ∙ ap (λ (i : ℕ). set (heads_below b k ++ get_or before m 0 ∷ drop (suc m) before) i k) w.count
        ∙ put_at (heads_below b k) (drop (suc m) before) (get_or before m 0)
        ∙ ap (λ (z : List ℕ). z ++ drop (suc m) before) (sym (below_more b k t));
    count = rw (below_more b k t) (omega (arith, w.count, length-append (heads_below b k) (k ∷ [])));
  }

-- no slot behind the used ones is listed
below_end : (b : List ℕ) (n : ℕ) → Vacant b n → (j : ℕ) → n + j ≤ slot_count → heads_below b (n + j) ≡ heads_below b n
below_end b n v zero l = ap (heads_below b) (add-zero n)
below_end b n v (suc j) l =
    let e : n + suc j ≡ suc (n + j) = omega arith in
    ap (heads_below b) e ∙ below_past b (n + j) (omega (arith, vacant_tag b n v (n + j) (omega arith) (omega arith))) ∙ below_end b n v j (omega arith)

pub order_end : (b before h : List ℕ) (m n : ℕ) → Vacant b n → Order b before h m n → Order b before h m slot_count
order_end b before h m n v w =
    let whole : n + (slot_count - n) ≡ slot_count = omega (arith, v.few) in
    let e : heads_below b slot_count ≡ heads_below b n = sym (ap (heads_below b) whole) ∙ below_end b n v (slot_count - n) (omega (arith, v.few)) in
    record { list = rw e w.list; count = rw e w.count }

-- two lists of the same slots, in the same room, are equal
pub listed_same : (b before g h : List ℕ) (m n : ℕ) → Listed b before g m → Listed b before h n → (m ≡ n) × (g ≡ h)
listed_same b before g h m n u w =
    let e : m ≡ n = u.count ∙ sym w.count in
    (e, u.list ∙ ap (λ (i : ℕ). heads_below b slot_count ++ drop i before) e ∙ sym w.list)
