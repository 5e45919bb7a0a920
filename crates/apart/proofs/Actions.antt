-- Each action of a passed plan is good: what it makes, writes or takes away, it does by rights that the caller found, and these are safe.
use mathlib.Core.Bool.{false, true}
use mathlib.Core.Logic.{inr, ◌⊎◌}
use mathlib.Core.Path.{ap, refl, subst, sym, ◌∙◌, ◌≡◌}
use Prim.Native.Nat.{◌+◌, ◌-◌, ◌<◌, ◌^◌, ℕ}
use native.Mathlib.Omega.{arith}
use lib.ListN.{get_or, replicate}
use Rattle.passed.proofs.Stand.{Standing, plot_fits}
use Rattle.passed.specs.Passed.{Creation, Deletion, Doomed, Passed, a_directory, a_process, a_table, an_endpoint}
use Rattle.rules.specs.Addresses.{slot_of}
use Rattle.rules.specs.Calls.{asked_kind}
use Rattle.rules.specs.Commit.{froze}
use Rattle.rules.specs.WellFormed.{object_no}
use Rattle.state.proofs.New.{directory_slots, table_slots}
use Rattle.state.proofs.Zeros.{copies}
use Rattle.state.specs.State.{Object, directory, endpoint, free, obj_at, place_at, places_of, process, size_of, table}
use Rattle.words.proofs.Flags.{inside_facts}
use Rattle.words.specs.Fields.{count}
use Rattle.words.specs.Rights.{inside, object_of}
use Rattle.apart.specs.Names.{Action, Answer, None, ChangeDirectory, ChangeTable, CreateDirectory, CreateEndpoint, CreateProcess, CreateTable, Delete, Directory, Empty, Endpoint, Fill, Freeze, Function, Some, Kind, Memory, Place, Process, Remove, SetCount, SetPosition, Slot, Spot, Table, Words}
use Rattle.apart.specs.Reach.{NamesObject}
use Rattle.apart.proofs.Extents.{lies_inside, none_behind}
use Rattle.apart.proofs.Good.{GoodCreate, GoodDelete}
use Rattle.apart.proofs.Invariant.{Far, Own, SafeAt, SafeKind}
use Rattle.apart.proofs.Objects.{directory_form, endpoint_form, position_in, process_form, process_own, real_in, real_size, root_of}
use Rattle.apart.proofs.Scene.{GoodIn, Scene, at_safe, at_stands, by_safe, by_stands, slots_formed}
use Rattle.apart.proofs.View.{in_slot}

module _ {M : ℕ → ℕ → Type 0} {a b : ℕ} (S : Scene M a b) where
  -- ---- creations: an object o with no right in it, in n free slots from s on that lie in a memory right, which is of M; k: the kind of its root
  create_good : (p : Spot) (s : Slot) (n : ℕ) (o : Object) (k : Kind) → Creation S.st S.t p s n
      → 0 < n → size_of o ≡ n → 0 < object_no o → ((j : ℕ) → get_or (places_of o) j None ≡ None) → Own S.R o
      → SafeKind M a b (λ u. S.R u ⊎ (u ≡ s.0)) k → (object_of k).0 ≡ s.0 → GoodCreate M a b S.st S.R p s o k
  create_good p s n o k h some size real empty names kind object =
      let q = h.plot in
      let m = by_stands S h.ground in
      let at : (slot_of q.address).0 ≡ s.0 = ap (λ (x : Slot). x.0) q.is in
      record {
        n = n;
        entry = h.fill.below;
        lot = record {
          lo = h.memory.low.0;
          hi = h.memory.high.0;
          mem = by_safe S h.ground;
          low = omega (arith, q.from, q.aligned, m.0);
          high = omega (arith, q.from, q.to, q.aligned, m.0);
        };
        fits = rw (slots_formed S).room (plot_fits S.st (slots_formed S) h.ground q);
        vacant = λ x l u. let e : s.0 + (x - s.0) ≡ x = omega arith in subst (λ (y : ℕ). in_slot S.st y ≡ free) e (q.vacant (x - s.0) (omega arith));
        some = some;
        size = size;
        extends = sym (real_size o real) ∙ size;
        empty = empty;
        names = names;
        kind = kind;
        object = object;
      }

  -- ---- deletions: the object of a root in reach
  record Named (k : Kind) (o : Slot) : Type 0 where
    object : object_of k ≡ o
    names : NamesObject k
    real : 0 < object_no (obj_at S.st o)

  named : (k : Kind) (o : Slot) → Standing S.st k → Doomed S.st o k → Named k o
  named k o h (a_table e z) = let i : object_no (obj_at S.st o) ≡ 1 = rw e at h in rw e (record { object = refl; names = tt; real = omega arith })
  named k o h (a_directory l u e y z) = let i : object_no (obj_at S.st o) ≡ 2 = rw e at h in rw e (record { object = refl; names = tt; real = omega arith })
  named k o h (a_process e) = let i : object_no (obj_at S.st o) ≡ 4 = rw e at h in rw e (record { object = refl; names = tt; real = omega arith })
  named k o h (an_endpoint e z) = let i : object_no (obj_at S.st o) ≡ 5 = rw e at h in rw e (record { object = refl; names = tt; real = omega arith })

  delete_good : (p : Spot) (o : Slot) → Deletion S.st S.t p o → GoodDelete M a b S.st p o
  delete_good p o h =
      let n = named h.right.kind o (at_stands S h.stands) h.doomed in
      record {
        entry = h.stands.below;
        far = subst (λ (x : Slot). Far a b S.st x.0) n.object ((at_safe S h.from h.stands).orig n.names (root_of h.right.origin h.root));
        size = real_size (obj_at S.st o) n.real;
        fits = lies_inside S.st S.formed o n.real;
        inner = none_behind S.st S.formed o.0;
      }

  -- ---- delegation and freeze: a right as safe as one that was there
  asked_safe : (k : Kind) (w : Words) → inside (asked_kind k w) k ≡ true → SafeKind M a b S.R k → SafeKind M a b S.R (asked_kind k w)
  asked_safe (Table o) w h s = s
  asked_safe (Directory o l u) w h s = tt
  asked_safe (Memory l u) w h s = let i = inside_facts (asked_kind (Memory l u) w) (Memory l u) h in S.parts _ _ _ _ s i.low i.high
  asked_safe (Process o) w h s = tt
  asked_safe (Endpoint o) w h s = tt
  asked_safe (Function l u) w h s = tt

  froze_safe : (clock : ℕ) (p : Place) → SafeAt M a b S.st S.R p → SafeAt M a b S.st S.R (froze clock p)
  froze_safe clock None h = tt
  froze_safe clock (Some c) h = record { kind = h.kind; orig = h.orig }

  -- ---- each action
  pub action_good : (w : Words) (x : Action) → Passed S.st S.t w x → GoodIn S x
  action_good w (CreateTable p s n) h =
      create_good p s _ (table (replicate n None)) (Table s) h.creation (let z = h.some in omega arith) (table_slots n) (omega arith) (λ j. copies n j None) tt (inr refl) refl
  action_good w (CreateDirectory p s g) h =
      create_good p s _ (directory g (replicate (2 ^ g.number) Empty)) (Directory s 0 (2 ^ g.number - 1)) h.creation
      (omega arith) (directory_slots g (2 ^ g.number)) (omega arith) (λ j. refl) tt tt refl
  action_good w (CreateProcess p s o d) h =
      create_good p s 1 (process o d) (Process s) h.creation (omega arith) refl (omega arith) (λ j. refl) (by_safe S h.table) tt refl
  action_good w (CreateEndpoint p s) h =
      create_good p s 1 (endpoint (count 0) false) (Endpoint s) h (omega arith) refl (omega arith) (λ j. refl) tt tt refl
  action_good w (Delete p o) h = delete_good p o h
  action_good w (Fill p g) h = record {
    entry = h.fill.below;
    safe = record {
      kind = rw h.kind (asked_safe h.right.kind w h.within (at_safe S h.from h.stands).kind);
      orig = λ n e. absurd (let o = h.origin in let z : ◌≡◌ {A = ℕ} 0 1 = cc in omega arith);
    };
  }
  action_good w (Freeze p) h = record {
    entry = h.stands.below;
    safe = froze_safe S.st.clock (place_at S.st p.table p.entry) (S.inv.rights p.table.0 p.entry (by_safe S h.in_table));
  }
  action_good w (Remove p) h = record { entry = h.stands.below; safe = tt }
  action_good w (SetPosition d i x) h =
      record { form = directory_form (obj_at S.st d) i x h.below; own = λ c. tt; places = λ q j. tt; fits = position_in S.st d i h.below }
  action_good w (ChangeTable p o) h =
      let e = by_stands S h.process in
      record { form = process_form (obj_at S.st p) e; own = λ c. by_safe S h.table; places = λ q j. tt; fits = real_in S.st p (omega arith) }
  action_good w (ChangeDirectory p d) h =
      let e = by_stands S h.process in
      record {
        form = process_form (obj_at S.st p) e;
        own = λ c. process_own S.R (obj_at S.st p) e (S.inv.own p.0 c);
        places = λ q j. tt;
        fits = real_in S.st p (omega arith);
      }
  action_good w (SetCount o c n) h =
      let e = by_stands S h.by in
      record { form = endpoint_form (obj_at S.st o) e; own = λ z. tt; places = λ q j. tt; fits = real_in S.st o (omega arith) }
  action_good w (Answer n) h = tt
