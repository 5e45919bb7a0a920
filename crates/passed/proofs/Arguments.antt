-- What each kind of argument shows where it passes: a right found by a number, a place, an address.
use mathlib.Core.Bool.{Bool, false, false≢true, true}
use mathlib.Core.Logic.{inl, inr}
use mathlib.Core.Path.{refl, ◌≡◌}
use Prim.Native.Nat.{◌%◌, ◌/◌, ℕ}
use lib.Dec.{ltb}
use borrow.Author.Tests.{eqb-true, leb-true, ltb-true}
use Rattle.rules.specs.Addresses.{address_arg}
use Rattle.rules.specs.Numbers.{argument, as_directory, as_endpoint, as_memory, as_process, as_table, directory_arg, endpoint_arg, filled, lookup, memory_arg, process_arg, right_at, table_arg, top_arg, two_step}
use Rattle.rules.specs.Places.{frozen_at, has_children, has_users, quiet, spot, thawed_at, to_delete, to_fill, to_remove, used_at}
use Rattle.state.specs.State.{Object, State, body, directory, endpoint, free, is_free, place_at, process, table}
use Rattle.words.proofs.Tests.{all_at, and_left, and_right, not_false}
use Rattle.words.specs.Fields.{capability_number}
use Rattle.words.specs.Refusals.{number}
use Rattle.words.specs.Rights.{is_blank, is_root}
use Rattle.words.specs.Try.{Try}
use Rattle.passed.specs.Found.{By, Found, Plot, Stands, Vacant, spanned, stretched}
use Rattle.passed.specs.Names.{None, CapNull, CapType, Capability, CapabilityNumber, Endpoint, Some, KernelAddress, Kind, Place, Process, Refusal, Slot, Spot, Stretch, Table}
use Rattle.passed.specs.Passed.{ByTop}
use Rattle.passed.proofs.Given.{Given, asked, bind, given, is_bad_state, refused, seq, test, then}
use Rattle.passed.proofs.OfKind.{is_directory, is_endpoint, is_memory, is_process, is_table}

pub is_blank_lem : (p : Place) → is_blank p ≡ true → p ≡ None
is_blank_lem None h = refl
is_blank_lem (Some c) h = absurd (false≢true h)

module _ (st : State) (t : Slot) where
  -- ---- capability numbers
  is_held : (r : Refusal) → is_bad_state (number r) ≡ false → (p : Place) → Given (filled r p) (λ c. p ≡ Some c)
  is_held r s None = refused s
  is_held r s (Some c) = given refl

  right_at_lem : (u : Slot) (e : ℕ) → Given (right_at st u e) (Stands st (spot u e))
  unfolding right_at
  right_at_lem u e = test _ refl λ h. test _ refl λ h₁. then (is_held CapType refl (place_at st u e)) λ c q. record { below = ltb-true _ _ h; holds = q }

  two_steps : (v : ℕ) → Given (two_step st t v) (Found st t)
  unfolding two_step
  two_steps v =
      test _ refl λ h. bind (right_at_lem t (v / 256)) λ c h₁. bind (is_table c.kind) λ o h₂. then (right_at_lem o (v % 128)) λ d h₃.
      record { at = o; entry = v % 128; way = inr (record { entry = v / 256; right = c; holds = h₁.holds; kind = h₂ }); below = h₃.below; holds = h₃.holds }

  pub looked_up : (v : CapabilityNumber) → Given (lookup st t v) (Found st t)
  unfolding lookup
  looked_up v = go (ltb v.0 128)
    where
      go : (b : Bool) → Given (elim b [ true ↦ right_at st t v.0 | false ↦ two_step st t v.0 ]) (Found st t)
      go true = then (right_at_lem t v.0) λ c h. record { at = t; entry = v.0; way = inl refl; below = h.below; holds = h.holds }
      go false = two_steps v.0

  by : {A : Type 0} (kind : Kind → Try A) (K : A → Kind) → ((k : Kind) → Given (kind k) (λ a. k ≡ K a)) → (v f : ℕ) → Given (argument kind st t v f) (λ a. By st t (K a))
  unfolding argument
  by kind K is v f =
      bind (looked_up (capability_number v)) λ c h. bind (is c.kind) λ a q. test _ refl λ z. given (record { right = c; found = h; kind = q })

  pub by_table : (v f : ℕ) → Given (table_arg st t v f) (λ o. By st t (Table o))
  by_table = by as_table Table is_table

  pub by_directory : (v f : ℕ) → Given (directory_arg st t v f) (λ d. By st t (spanned d))
  by_directory = by as_directory spanned is_directory

  pub by_memory : (v f : ℕ) → Given (memory_arg st t v f) (λ m. By st t (stretched m))
  by_memory = by as_memory stretched is_memory

  pub by_process : (v f : ℕ) → Given (process_arg st t v f) (λ o. By st t (Process o))
  by_process = by as_process Process is_process

  pub by_endpoint : (v f : ℕ) → Given (endpoint_arg st t v f) (λ o. By st t (Endpoint o))
  by_endpoint = by as_endpoint Endpoint is_endpoint

  pub by_top : (v f : ℕ) → Given (top_arg st t v f) (ByTop st t)
  unfolding top_arg
  by_top v f = bind (by_directory v f) λ d h. test _ refl λ q. given (record { span = d; by = h; is = refl; top = q })

  -- ---- places
  -- the place that an entry number of the table at u means
  pub record Filling (u : Slot) (e : ℕ) (p : Spot) : Type 0 where
    pub is : spot u e ≡ p
    pub vacant : Vacant st p

  pub filling : (u : Slot) (e : ℕ) → Given (to_fill st u e) (Filling u e)
  unfolding to_fill
  filling u e = test _ refl λ h. test _ refl λ h₁. test _ refl λ h₂. given (record { is = refl; vacant = record { below = ltb-true _ _ h; blank = is_blank_lem _ h₂ } })

  used : (u : Slot) (e : ℕ) → Given (used_at st u e) (Stands st (spot u e))
  unfolding used_at
  used u e = test _ refl λ h. then (is_held CapNull refl (place_at st u e)) λ c q. record { below = ltb-true _ _ h; holds = q }

  pub thawed : (u : Slot) (e : ℕ) → Given (thawed_at st u e) (Stands st (spot u e))
  unfolding thawed_at
  thawed u e = bind (used u e) λ c h. test _ refl λ q. given h

  frozen : (u : Slot) (e : ℕ) → Given (frozen_at st u e) (Stands st (spot u e))
  unfolding frozen_at
  frozen u e = bind (used u e) λ c h. test _ refl λ q. given h

  aged : (c : Capability) → Given (quiet st c) (λ x. Unit {0})
  unfolding quiet
  aged c = asked _ _ refl

  pub record Removing (u : Slot) (e : ℕ) (p : Spot) : Type 0 where
    pub is : spot u e ≡ p
    pub right : Capability
    pub stands : Stands st (spot u e) right
    pub child : is_root right.origin ≡ false
    pub childless : has_children st (spot u e) ≡ false

  pub removing : (u : Slot) (e : ℕ) → Given (to_remove st u e) (Removing u e)
  unfolding to_remove
  removing u e = bind (frozen u e) λ c h. seq (aged c) λ b z. test _ refl λ h₁. test _ refl λ h₂.
      given (record { is = refl; right = c; stands = h; child = not_false _ h₁; childless = not_false _ h₂ })

  -- the root at a place, of a kind that Q tells
  pub record Deleting (Q : Kind → Slot → Type 0) (u : Slot) (e : ℕ) (o : Slot) : Type 0 where
    pub right : Capability
    pub stands : Stands st (spot u e) right
    pub kind : Q right.kind o
    pub root : is_root right.origin ≡ true
    pub childless : has_children st (spot u e) ≡ false
    pub unused : has_users st o ≡ false

  pub deleting : (kind : Kind → Try Slot) (Q : Kind → Slot → Type 0) → ((k : Kind) → Given (kind k) (Q k)) → (u : Slot) (e : ℕ) → Given (to_delete kind st u e) (Deleting Q u e)
  unfolding to_delete
  deleting kind Q is u e = bind (frozen u e) λ c h. bind (is c.kind) λ o q. seq (aged c) λ b z. test _ refl λ h₁. test _ refl λ h₂. test _ refl λ h₃.
      given (record { right = c; stands = h; kind = q; root = h₁; childless = not_false _ h₂; unused = not_false _ h₃ })

  -- ---- addresses
  is_free_lem : (o : Object) → is_free o ≡ true → o ≡ free
  is_free_lem free h = refl
  is_free_lem (body f) h = absurd (false≢true h)
  is_free_lem (table ps) h = absurd (false≢true h)
  is_free_lem (directory g es) h = absurd (false≢true h)
  is_free_lem (process o d) h = absurd (false≢true h)
  is_free_lem (endpoint c b) h = absurd (false≢true h)

  pub plotted : (m : Stretch) (a : KernelAddress) (n : ℕ) → Given (address_arg st m a n) (λ s. Plot st m s n)
  unfolding address_arg
  plotted m a n = test _ refl λ h. test _ refl λ f. given (record {
    address = a;
    is = refl;
    aligned = eqb-true _ _ (and_left _ _ h);
    from = leb-true _ _ (and_left _ _ (and_right _ _ h));
    to = leb-true _ _ (and_right _ _ (and_right _ _ h));
    vacant = λ i l. is_free_lem _ (all_at n _ f i l);
  })
