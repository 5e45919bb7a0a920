-- `judging_deletions::users::has_users` meets its contract: no slot passed holds a user, and the first one that does ends the search.
use mathlib.Core.Path.{◌≡◌, refl, sym, ap, subst, ◌∙◌}
use mathlib.Core.Bool.{false}
use Prim.Native.Nat.{ℕ}
use native.Mathlib.Numerals.{add-one}
use native.Mathlib.Omega.{arith}
use Rattle.state.specs.Read.{read}
use Rattle.state.specs.State.{obj_at}
use Rattle.words.specs.Sizes.{slot_count}
use Rattle.words.specs.Tests.{any_below}
use Rattle.words.proofs.Tests.{any_zero, any_more, any_found}
use Rattle.rules.specs.Places.{has_users, is_user_of}
use Rattle.judging_deletions.specs.Names.{Slot}
use Rattle.judging_deletions.proofs.UserSearch.{user_at}
use Rattle.judging_deletions.proofs.users.has_users.Goals as goal

pub search-init : goal.search-init
search-init c = (omega arith, refl, any_zero _)

pub search-preserved : goal.search-preserved
search-preserved c =
    let a = c.args in let l = c.search in
    let here : c.is_user.result ≡ user_at a.s.now a.o l.k = c.is_user.ensures ∙ ap (λ (x : Slot). is_user_of a.o (obj_at (read a.s.now) x)) c.slot_numbered.ensures in
    (omega arith, l.invariant.1, rw add-one (any_more l.k (user_at a.s.now a.o) l.invariant.2 (sym here ∙ c.if-is_user.false)))

pub returns-after-search : goal.returns-after-search
unfolding has_users
returns-after-search c =
    let a = c.args in let l = c.search in
    let all : l.k ≡ slot_count = omega arith in
    l.invariant.1 ∙ sym (subst (λ (x : ℕ). any_below x (user_at a.s.now a.o) ≡ false) all l.invariant.2)

pub returns-then-is_user : goal.returns-then-is_user
unfolding has_users
returns-then-is_user c =
    let a = c.args in let l = c.search in
    let here : c.is_user.result ≡ user_at a.s.now a.o l.k = c.is_user.ensures ∙ ap (λ (x : Slot). is_user_of a.o (obj_at (read a.s.now) x)) c.slot_numbered.ensures in
    sym (any_found slot_count (user_at a.s.now a.o) l.k c.search-test.true (sym here ∙ c.if-is_user.true))
