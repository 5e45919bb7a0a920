-- Where each right names an object of its kind that stands there, the roots counted under a number are the roots of one object
-- or of one kind, and so the counts are those of the rule.
use mathlib.Core.Bool.{Bool, false, true}
use mathlib.Core.Logic.{◌≢◌}
use mathlib.Core.Path.{ap, refl, sym, ◌∙◌, ◌≡◌}
use Prim.Native.Nat.{◌<◌, suc, ℕ, ◌≤◌}
use native.Mathlib.Omega.{arith}
use lib.Dec.{eqb}
use lib.ListN.{get_or}
use borrow.Author.Tests.{eq-eqb, eqb-true, ne_eqb}
use Rattle.audit_entries.proofs.Bounded.{sum_agree}
use Rattle.rules.specs.WellFormed.{every_place, is_root_of, names, object_no, one, one_root, right, roots_of}
use Rattle.state.proofs.Write.{object_inside}
use Rattle.state.specs.Bytes.{tag_of}
use Rattle.state.specs.Layout.{Laid}
use Rattle.state.specs.State.{Object, State, body, directory, endpoint, entries_in, free, obj_at, place_at, process, table}
use Rattle.words.proofs.Tests.{all_at}
use Rattle.words.specs.Fields.{slot}
use Rattle.words.specs.Rights.{is_root, kind_no, object_of}
use Rattle.words.specs.Sizes.{slot_count}
use Rattle.words.specs.Tests.{◌&◌}
use Rattle.audit_roots.specs.Names.{None, Directory, Endpoint, Function, Some, Kind, Memory, Origin, Place, Process, Slot, Table}
use Rattle.audit_roots.specs.Roots.{counted_under, key_of, key_under, named, root_key, roots_among, roots_below}

-- the second of two tests, where the first follows from it
second : (a z : Bool) → (z ≡ true → a ≡ true) → z ≡ (a & z)
unfolding ◌&◌
second true z f = refl
second false true f = sym (f refl)
second false false f = refl

neither : (x y z : Bool) → x ≡ false → y ≡ false → x ≡ (y & z)
unfolding ◌&◌
neither x y z p q = rw (p, q)

-- a number under which the roots of kind n for o are counted
abbrev Tells : State → ℕ → ℕ → Slot → Type 0
Tells st key n o = (q : Kind) → names st q ≡ true → eqb (key_of q) key ≡ (eqb (kind_no q) n & eqb (object_of q).0 o.0)

module _ (st : State) (given : named st ≡ true) where
  place_named : (s : ℕ) → s < slot_count → (e : ℕ) → e < entries_in st (slot s) → right (λ c. names st c.kind) (place_at st (slot s) e) ≡ true
  unfolding named every_place
  place_named s hs = all_at _ _ (all_at slot_count _ given s hs)

  module _ (key n : ℕ) (o : Slot) (tells : Tells st key n o) where
    root_is : (q : Kind) (r : Origin) → names st q ≡ true → counted_under (key_under q r) key ≡ (is_root r & eqb (kind_no q) n & eqb (object_of q).0 o.0)
    unfolding ◌&◌
    root_is q None h = tells q h
    root_is q (Some p) h = refl

    place_is : (p : Place) → right (λ c. names st c.kind) p ≡ true → counted_under (root_key p) key ≡ is_root_of n o p
    place_is None h = refl
    place_is (Some c) h = root_is c.kind c.origin h

    pub roots_are : roots_below st slot_count key ≡ roots_of st n o
    unfolding roots_below roots_among roots_of
    roots_are = sum_agree slot_count _ _ (λ s hs. sum_agree (entries_in st (slot s)) _ _ (λ e he. ap one (place_is (place_at st (slot s) e) (place_named s hs e he))))

-- ---- an object's first slot is the number of its own roots
module _ (st : State) (o : Slot) (n : ℕ) (inside : o.0 < slot_count) (stands : object_no (obj_at st o) ≡ n) (n3 : n ≢ 3) (n6 : n ≢ 6) where
  kind_is : (q : Slot) (m : ℕ) → eqb (object_no (obj_at st q)) m ≡ true → eqb q.0 o.0 ≡ true → eqb m n ≡ true
  kind_is q m h e =
      let same : object_no (obj_at st q) ≡ n = ap (λ (i : ℕ). object_no (get_or st.slots i free)) (eqb-true _ _ e) ∙ stands in
      eq-eqb m n (sym (eqb-true _ _ h) ∙ same)

  object_tells : Tells st o.0 n o
  unfolding names
  object_tells (Table q) h = second _ _ (kind_is q 1 h)
  object_tells (Directory q l u) h = second _ _ (kind_is q 2 h)
  object_tells (Memory l u) h = neither _ _ _ (ne_eqb 256 o.0 (λ e. omega arith)) (ne_eqb 3 n (λ e. n3 (sym e)))
  object_tells (Process q) h = second _ _ (kind_is q 4 h)
  object_tells (Endpoint q) h = second _ _ (kind_is q 5 h)
  object_tells (Function l u) h = neither _ _ _ (ne_eqb 257 o.0 (λ e. omega arith)) (ne_eqb 6 n (λ e. n6 (sym e)))

  pub object_roots : named st ≡ true → roots_below st slot_count o.0 ≡ roots_of st n o
  object_roots given = roots_are st given o.0 n o object_tells

-- ---- and 256 and 257 are those of memory and function
no_number : (o : Object) → tag_of o ≡ 0 → object_no o ≡ 0
no_number free h = refl
no_number (body f) h = refl
no_number (table ps) h = absurd (omega arith)
no_number (directory g es) h = absurd (omega arith)
no_number (process t d) h = absurd (omega arith)
no_number (endpoint c b) h = absurd (omega arith)

module _ (st : State) (w : Laid st) (given : named st ≡ true) where
  -- what is named stands in one of the 256 slots
  far : (q : Slot) (m key : ℕ) → slot_count ≤ key → eqb (object_no (obj_at st q)) (suc m) ≡ true → eqb q.0 key ≡ false
  far q m key h e =
      let inside = object_inside st w q (λ z. let none = no_number (obj_at st q) z in let is : object_no (obj_at st q) ≡ suc m = eqb-true _ _ e in omega arith) in
      ne_eqb q.0 key (λ z. omega arith)

  memory_tells : Tells st 256 3 (slot 0)
  unfolding names ◌&◌
  memory_tells (Table q) h = far q 0 256 (omega arith) h
  memory_tells (Directory q l u) h = far q 1 256 (omega arith) h
  memory_tells (Memory l u) h = refl
  memory_tells (Process q) h = far q 3 256 (omega arith) h
  memory_tells (Endpoint q) h = far q 4 256 (omega arith) h
  memory_tells (Function l u) h = refl

  function_tells : Tells st 257 6 (slot 0)
  unfolding names ◌&◌
  function_tells (Table q) h = far q 0 257 (omega arith) h
  function_tells (Directory q l u) h = far q 1 257 (omega arith) h
  function_tells (Memory l u) h = refl
  function_tells (Process q) h = far q 3 257 (omega arith) h
  function_tells (Endpoint q) h = far q 4 257 (omega arith) h
  function_tells (Function l u) h = refl

  pub memory_roots : roots_below st slot_count 256 ≡ roots_of st 3 (slot 0)
  memory_roots = roots_are st given 256 3 (slot 0) memory_tells

  pub function_roots : roots_below st slot_count 257 ≡ roots_of st 6 (slot 0)
  function_roots = roots_are st given 257 6 (slot 0) function_tells

-- ---- the test of a slot
pub none_owed : (st : State) (k : Slot) (o : Object) → tag_of o < 2 → one_root st k o ≡ true
unfolding one_root
none_owed st k free h = refl
none_owed st k (body f) h = refl
none_owed st k (table ps) h = absurd (omega arith)
none_owed st k (directory g es) h = absurd (omega arith)
none_owed st k (process t d) h = absurd (omega arith)
none_owed st k (endpoint c b) h = absurd (omega arith)

pub one_owed : (st : State) → named st ≡ true → (k : Slot) → k.0 < slot_count → (o : Object) → obj_at st k ≡ o → 2 ≤ tag_of o
    → eqb (roots_below st slot_count k.0) 1 ≡ one_root st k o
unfolding one_root
one_owed st given k h free e t = absurd (omega arith)
one_owed st given k h (body f) e t = absurd (omega arith)
one_owed st given k h (table ps) e t = rw (object_roots st k 1 h (ap object_no e) (λ z. omega arith) (λ z. omega arith) given)
one_owed st given k h (directory g es) e t = rw (object_roots st k 2 h (ap object_no e) (λ z. omega arith) (λ z. omega arith) given)
one_owed st given k h (process x y) e t = rw (object_roots st k 4 h (ap object_no e) (λ z. omega arith) (λ z. omega arith) given)
one_owed st given k h (endpoint c b) e t = rw (object_roots st k 5 h (ap object_no e) (λ z. omega arith) (λ z. omega arith) given)
