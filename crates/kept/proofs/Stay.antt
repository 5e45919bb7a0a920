-- What others see of an object, and what rests on objects that still look so: rights, processes, child directories.
use mathlib.Core.Bool.{not, true}
use mathlib.Core.Logic.{inl, inr, ◌⊎◌}
use mathlib.Core.Path.{ap, ap₂, refl, subst, ◌∙◌, ◌≡◌}
use Prim.Native.Nat.{◌*◌, ◌+◌, ◌-◌, ◌/◌, ◌<◌, suc, ℕ}
use native.Mathlib.Omega.{arith}
use lib.Dec.{eqb, leb, ltb}
use lib.ListN.{get_or, length}
use borrow.Author.Tests.{eqb-true}
use Rattle.words.specs.Fields.{slot}
use Rattle.words.specs.Rights.{page_flags}
use Rattle.words.specs.Tests.{◌&◌}
use Rattle.words.proofs.Tests.{all_at, all_of, and_both, and_left, and_right}
use Rattle.state.specs.Layout.{Laid}
use Rattle.state.specs.State.{Object, State, body, directory, endpoint, entries_in, first_of, free, obj_at, place_at, place_numbered, places_of, positions_of, process, shape_of, size_of, spot_numbered, table}
use Rattle.rules.proofs.Named.{top_stands}
use Rattle.rules.specs.WellFormed.{descends, ends_ok, hangs, names, object_no, object_ok, position_ok, right, right_ok, runs, whole}
use Rattle.rules.proofs.Facts.{right_close, right_open}
use Rattle.kept.specs.Names.{None, Capability, Child, Directory, Empty, Endpoint, Function, Geometry, Some, Kind, Memory, Origin, Page, Place, Position, Process, Slot, Table}
use Rattle.kept.proofs.Base.{Base}
use Rattle.kept.proofs.Descent.{Fits, fits_of, fits_same, of_fits}

pub record Like (n o : Object) : Type 0 where
  pub number : object_no n ≡ object_no o
  pub entries : length (places_of n) ≡ length (places_of o)
  pub positions : length (positions_of n) ≡ length (positions_of o)
  pub shape : shape_of n ≡ shape_of o
  pub first : (k : ℕ) → first_of k n ≡ first_of k o
  pub size : size_of n ≡ size_of o

pub like_eq : (n o : Object) → n ≡ o → Like n o
like_eq n o e =
    record {
      number = ap object_no e;
      entries = ap (λ (x : Object). length (places_of x)) e;
      positions = ap (λ (x : Object). length (positions_of x)) e;
      shape = ap shape_of e;
      first = λ k. ap (first_of k) e;
      size = ap size_of e;
    }

-- the object that a kind names, and those that an object names, are among the slots of Ne
abbrev pub NeKind : (Slot → Type 0) → Kind → Type 0
NeKind Ne (Table o) = Ne o
NeKind Ne (Directory o l h) = Ne o
NeKind Ne (Memory l h) = Unit {0}
NeKind Ne (Process o) = Ne o
NeKind Ne (Endpoint o) = Ne o
NeKind Ne (Function l h) = Unit {0}

pub record NeObject (Ne : Slot → Type 0) (x : Object) : Type 0 where
  pub named : (t d : Slot) → x ≡ process t d → Ne t × Ne d
  pub hung : (i : ℕ) (o : Slot) (f : ℕ) → i < length (positions_of x) → get_or (positions_of x) i Empty ≡ Child o f → Ne o

-- Ne: the slots whose objects look as they did
module _ (st st' : State) (Ne : Slot → Type 0) (fix : (k : Slot) → 0 < object_no (obj_at st k) → Ne k → Like (obj_at st' k) (obj_at st k)) where
  fixed : (o : Slot) (n : ℕ) → eqb (object_no (obj_at st o)) (suc n) ≡ true → Ne o → Like (obj_at st' o) (obj_at st o)
  fixed o n h d = fix o (let z : object_no (obj_at st o) ≡ suc n = eqb-true _ _ h in omega arith) d

  names_stay : (k : Kind) → NeKind Ne k → names st k ≡ true → names st' k ≡ true
  unfolding names
  names_stay (Table o) d h = ap (λ (n : ℕ). eqb n 1) (fixed o 0 h d).number ∙ h
  names_stay (Directory o l u) d h = ap (λ (n : ℕ). eqb n 2) (fixed o 1 h d).number ∙ h
  names_stay (Memory l u) d h = refl
  names_stay (Process o) d h = ap (λ (n : ℕ). eqb n 4) (fixed o 3 h d).number ∙ h
  names_stay (Endpoint o) d h = ap (λ (n : ℕ). eqb n 5) (fixed o 4 h d).number ∙ h
  names_stay (Function l u) d h = refl

  ends_stay : (k : Kind) → NeKind Ne k → names st k ≡ true → ends_ok st k ≡ true → ends_ok st' k ≡ true
  unfolding names ends_ok
  ends_stay (Table o) d n h = h
  ends_stay (Directory o l u) d n h = ap (λ (m : ℕ). ltb l m & ltb u m) (fixed o 1 n d).positions ∙ h
  ends_stay (Memory l u) d n h = h
  ends_stay (Process o) d n h = h
  ends_stay (Endpoint o) d n h = h
  ends_stay (Function l u) d n h = h

  whole_stay : (k : Kind) → NeKind Ne k → names st k ≡ true → whole st k ≡ true → whole st' k ≡ true
  unfolding names whole
  whole_stay (Table o) d n h = h
  whole_stay (Directory o l u) d n h = ap (λ (m : ℕ). eqb l 0 & eqb (suc u) m) (fixed o 1 n d).positions ∙ h
  whole_stay (Memory l u) d n h = h
  whole_stay (Process o) d n h = h
  whole_stay (Endpoint o) d n h = h
  whole_stay (Function l u) d n h = h

  -- a right that fits under its parent as it did
  right_stay : Laid st' → (c : Capability) → NeKind Ne c.kind → ((p : ℕ) → c.origin ≡ Some p → Fits st c p → Fits st' c p) → right_ok st c ≡ true → right_ok st' c ≡ true
  unfolding descends
  right_stay w c d f h =
      let r = right_open st c h in
      right_close st' c (record { stands = names_stay c.kind d r.stands; ends = ends_stay c.kind d r.stands r.ends; flags = r.flags; stamp = r.stamp; descent = origin r.stands c.origin refl r.descent })
    where
      origin : names st c.kind ≡ true → (o : Origin) → c.origin ≡ o → descends st c o ≡ true → descends st' c o ≡ true
      origin n None q e = and_both _ _ (and_left _ _ e) (whole_stay c.kind d n (and_right _ _ e))
      origin n (Some p) q e = of_fits st' w c p (f p q (fits_of st c p e))

  pub runs_stay : (t d : Slot) → Ne t → Ne d → runs st t d ≡ true → runs st' t d ≡ true
  unfolding runs
  runs_stay t d a b h =
      let x = and_left _ _ h in
      let y = and_right _ _ h in
      let top : object_no (obj_at st d) ≡ 2 = top_stands (obj_at st d) y in
      and_both _ _ (ap (λ (n : ℕ). eqb n 1) (fixed t 0 x a).number ∙ x) (ap (λ (g : Geometry). g.top) (fix d (omega arith) b).shape ∙ y)

  position_stay : (g : Geometry) (p : Position) → ((o : Slot) (x : ℕ) → p ≡ Child o x → Ne o) → position_ok st g p ≡ true → position_ok st' g p ≡ true
  unfolding position_ok hangs
  position_stay g Empty d h = h
  position_stay g (Page f x) d h = h
  position_stay g (Child o x) d h =
      let l = fixed o 1 (and_left _ _ (and_left _ _ h)) (d o x refl) in
      ap₂ (λ (n : ℕ) (s : Geometry). (eqb n 2 & eqb (s.size + s.number) g.size & not s.top) & leb x page_flags) l.number l.shape ∙ h

  object_stay : (s : Slot) (x : Object) → NeObject Ne x → object_ok st s x ≡ true → object_ok st' s x ≡ true
  unfolding object_ok
  object_stay s free d h = h
  object_stay s (body f) d h = h
  object_stay s (table ps) d h = h
  object_stay s (directory g es) d h =
      let h₁ = and_right _ _ h in
      let h₂ = and_right _ _ h₁ in
      and_both _ _ (and_left _ _ h) (and_both _ _ (and_left _ _ h₁) (and_both _ _ (and_left _ _ h₂)
      (all_of _ _ (λ i hi. position_stay g (get_or es i Empty) (λ o f q. d.hung i o f hi q) (all_at _ _ (and_right _ _ h₂) i hi)))))
  object_stay s (process t e) d h = let z = d.named t e refl in runs_stay t e z.0 z.1 h
  object_stay s (endpoint c b) d h = h

  -- each slot holds what it held, or an object that is new, is as it should be, and holds no right; the places keep their numbers
  pub record Fresh (k : ℕ) : Type 0 where
    pub blank : (e : ℕ) → place_at st' (slot k) e ≡ None
    pub good : object_ok st' (slot k) (obj_at st' (slot k)) ≡ true

  pub base_stay : Base st → Laid st' → ((n : ℕ) → place_numbered st' n ≡ place_numbered st n) → ((k : ℕ) → (obj_at st' (slot k) ≡ obj_at st (slot k)) ⊎ Fresh k)
      → ((t : Slot) (e : ℕ) (c : Capability) → place_at st t e ≡ Some c → right_ok st c ≡ true → NeKind Ne c.kind) → ((k : ℕ) → k < 256 → NeObject Ne (obj_at st (slot k))) → Base st'
  base_stay w laid same from kinds objects =
      record { laid = laid; rights = λ k hk e he. rights k hk e he (from k); objects = λ k hk. object k hk (from k) }
    where
      keep : (k e : ℕ) (p : Place) → place_at st (slot k) e ≡ p → right (right_ok st) p ≡ true → right (right_ok st') p ≡ true
      keep k e None q h = refl
      keep k e (Some c) q h = right_stay laid c (kinds (slot k) e c q h) (λ p _ f. fits_same st st' same c p f) h

      rights : (k : ℕ) → k < 256 → (e : ℕ) → e < entries_in st' (slot k) → (obj_at st' (slot k) ≡ obj_at st (slot k)) ⊎ Fresh k → right (right_ok st') (place_at st' (slot k) e) ≡ true
      rights k hk e he (inl q) = ap (λ (y : Object). right (right_ok st') (get_or (places_of y) e None)) q ∙ keep k e (place_at st (slot k) e) refl (w.rights k hk e (subst (λ (y : Object). e < length (places_of y)) q he))
      rights k hk e he (inr f) = ap (right (right_ok st')) (f.blank e)

      object : (k : ℕ) → k < 256 → (obj_at st' (slot k) ≡ obj_at st (slot k)) ⊎ Fresh k → object_ok st' (slot k) (obj_at st' (slot k)) ≡ true
      object k hk (inl q) = ap (object_ok st' (slot k)) q ∙ object_stay (slot k) (obj_at st (slot k)) (objects k hk) (w.objects k hk)
      object k hk (inr f) = f.good

-- ---- every object looks as it did
abbrev pub Any : Slot → Type 0
Any k = Unit {0}

pub any_kind : (k : Kind) → NeKind Any k
any_kind (Table o) = tt
any_kind (Directory o l h) = tt
any_kind (Memory l h) = tt
any_kind (Process o) = tt
any_kind (Endpoint o) = tt
any_kind (Function l h) = tt

pub any_object : (x : Object) → NeObject Any x
any_object x = record { named = λ t d _. (tt, tt); hung = λ i o f l _. tt }

module _ (st st' : State) (like : (k : ℕ) → Like (obj_at st' (slot k)) (obj_at st (slot k))) where
  pub right_alike : Laid st' → (c : Capability) → ((p : ℕ) → c.origin ≡ Some p → Fits st c p → Fits st' c p) → right_ok st c ≡ true → right_ok st' c ≡ true
  right_alike w c f h = right_stay st st' Any (λ k _ _. like k.0) w c (any_kind c.kind) f h

  pub object_alike : (s : Slot) (x : Object) → object_ok st s x ≡ true → object_ok st' s x ≡ true
  object_alike s x h = object_stay st st' Any (λ k _ _. like k.0) s x (any_object x) h

  pub spot_alike : (n : ℕ) → spot_numbered st' n ≡ spot_numbered st n
  spot_alike n = ap (λ (h : Slot). record { table = h; entry = n - 2 * h.0 }) ((like (n / 2)).first (n / 2))
