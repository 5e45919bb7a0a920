-- `kernel::runs::kernel_run` meets its contract. The loop's invariant: the first i events have happened.
use Rattle.std.proofs.Common.{◌≡◌, ℕ, suc, ◌+◌, ◌/◌, ◌<◌, List, [], ◌∷◌, ◌++◌, length, drop, set, ℤ, sym, refl, ap, ◌∙◌, add-one, arith, w32, rules, eq-eqb, ne_eqb, le-leb}
use borrow.Author.Tests.{lt-leb}
use mir.ValLaws.{to_z-of_z}
use Rattle.rules.specs.Run.{Replies, happens, run_outcome}
use Rattle.state.specs.Read.{listed}
use Rattle.kernel.specs.Script.{event_at, events_in, run_result}
use Rattle.kernel.proofs.Scripts.{run_next, answer_next}
use Rattle.kernel.proofs.runs.kernel_run.Goals as goal

pub returns-then-script-ne0 : goal.returns-then-script-ne0
unfolding run_result
returns-then-script-ne0 c = rw (ne_eqb _ _ c.if-script-ne0.true)

pub returns-then-answers-n : goal.returns-then-answers-n
unfolding run_result
returns-then-answers-n c = rw (eq-eqb _ _ c.if-script-ne0.false, lt-leb _ _ c.if-answers-n.true)

pub loop-i-init : goal.loop-i-init
unfolding events_in listed run_outcome
loop-i-init c = (refl, refl, search rules, search rules, search rules)

pub loop-i-preserved : goal.loop-i-preserved
unfolding event_at
loop-i-preserved c =
    let a = c.args in
    let l = c.loop-i in
    let b₀ : List ℕ = a.s.now in
    let script : List ℕ = a.script.now in
    let out : List ℤ = a.answers.now in
    let i : ℕ = l.i in
    let r : ℤ = c.happen.result in
    let ens = c.happen.ensures in
    let q = run_next b₀ script i in
    let m : run_outcome b₀ (events_in (suc i) script) ≡ run_outcome b₀ (events_in (i + 1) script) = ap (λ (k : ℕ). run_outcome b₀ (events_in k script)) (sym (add-one i)) in
    let s₁ : c.happen.new.s ≡ (happens (run_outcome b₀ (events_in i script)).buffer (event_at script i)).buffer = (λ j. (ens j).buffer) ∙ ap (λ (x : List ℕ). (happens x (event_at script i)).buffer) l.invariant.0 in
    let r₁ : r ≡ (happens (run_outcome b₀ (events_in i script)).buffer (event_at script i)).reply = (λ j. (ens j).reply) ∙ ap (λ (x : List ℕ). (happens x (event_at script i)).reply) l.invariant.0 in
    let below : i < length out = omega arith in
    let a₁ : set l.answers i r ≡ (run_outcome b₀ (events_in (i + 1) script)).replies ++ drop (i + 1) out =
    ap (λ (x : List ℤ). set x i r) l.invariant.1 ∙ answer_next b₀ script i out r below
    ∙ ap (λ (v : ℤ). ((run_outcome b₀ (events_in i script)).replies ++ (v ∷ [])) ++ drop (i + 1) out) r₁
    ∙ sym (ap (λ (x : Replies). x.replies ++ drop (i + 1) out) q) ∙ ap (λ (x : Replies). x.replies ++ drop (i + 1) out) m in
    (s₁ ∙ sym (ap (λ (x : Replies). x.buffer) q) ∙ ap (λ (x : Replies). x.buffer) m, rw (to_z-of_z w32 c.happen.result (record { sfits = c.happen.type_inv })) a₁, search rules, search rules, search rules)

pub returns : goal.returns
unfolding run_result
returns c =
    let a = c.args in
    let l = c.loop-i in
    let e : l.i ≡ length a.script.now / 5 = omega arith in
    rw (eq-eqb _ _ c.if-script-ne0.false, le-leb _ _ c.if-answers-n.false, l.invariant.0, l.invariant.1, e) refl
